pub mod Rams
