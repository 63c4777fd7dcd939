pub mod Geometry
pub mod Table
pub mod Cells
pub mod Ideal
