pub mod Bench
pub mod Given
