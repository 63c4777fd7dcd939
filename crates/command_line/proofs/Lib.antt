-- A command's words, as `clap` walks them and as the rule on words scans them.
pub mod HandedOn
pub mod Leaf
pub mod LeafWalk
pub mod Parsed
pub mod Shorts
pub mod Spelled
pub mod Top
