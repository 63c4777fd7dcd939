pub mod Made
pub mod Rows
pub mod Scan
pub mod Shown
pub mod Texts
