pub mod Slots
pub mod Gangs
pub mod Alone
pub mod Opening
pub mod Opens
