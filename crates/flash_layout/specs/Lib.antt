pub mod Areas
pub mod Maps
pub mod Bench
pub mod Work
pub mod Lock
pub mod Cells
