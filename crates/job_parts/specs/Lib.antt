pub mod Board
pub mod Lengths
pub mod Gives
pub mod Listing
pub mod Parts
pub mod Mended
