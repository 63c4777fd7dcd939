pub mod Record
pub mod Srec
pub mod Clashes
