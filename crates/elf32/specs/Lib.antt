pub mod Search
pub mod Fields
pub mod Format
pub mod Strings
pub mod Places
pub mod Checks
pub mod Tables
pub mod Opened
