pub mod Places
pub mod Table
pub mod Calls
pub mod Erasures
