-- The sectors and pages of a device's shape, as ranges that follow one another, and how they are found.
pub mod TestLemmas
pub mod ChainLemmas
pub mod GeometryLemmas
pub mod FindLemmas
pub mod NumberLemmas
pub mod BuiltLemmas
