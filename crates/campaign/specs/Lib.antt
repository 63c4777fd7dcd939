pub mod Stops
pub mod Campaign
