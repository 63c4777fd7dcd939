pub mod Words
pub mod Lines
pub mod Works
pub mod Ends
pub mod Gangs
pub mod Puts
