pub mod Words
pub mod Requested
pub mod BoardAlgorithms
pub mod Steps
pub mod Endings
pub mod Verdicts
pub mod Answers
