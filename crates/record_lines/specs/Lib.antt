pub mod Digits
pub mod Cells
pub mod Format
pub mod Clashes
pub mod Gathered
