pub mod Comparison
pub mod Compare
pub mod Inspect
pub mod Verify
pub mod Plan
pub mod Answers
pub mod Steps
