pub mod Asks
pub mod States
pub mod Hands
pub mod Steps
pub mod Runs
