pub mod Record
pub mod Hex
pub mod Clashes
