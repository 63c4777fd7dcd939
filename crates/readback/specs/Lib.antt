pub mod Difference
pub mod Readback
