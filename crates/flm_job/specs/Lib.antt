pub mod Words
pub mod Rescues
pub mod Answers
