pub mod Form
pub mod Fault
pub mod Segments
pub mod Read
pub mod Union
pub mod Ranges
