pub mod Differences
pub mod Verdicts
