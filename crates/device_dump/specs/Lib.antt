pub mod Looks
pub mod CellMaps
pub mod Dump
pub mod Steps
