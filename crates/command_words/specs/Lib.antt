pub mod Files
pub mod Fits
pub mod Lines
pub mod Words
pub mod Names
pub mod Requested
