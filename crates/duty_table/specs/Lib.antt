pub mod Alike
pub mod States
pub mod Filled
pub mod Tables
pub mod Reasons
