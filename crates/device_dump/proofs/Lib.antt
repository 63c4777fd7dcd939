-- Cells as a map, and that a dump is read as its cells.
pub mod LooksLemmas
pub mod CellLemmas
pub mod DumpLemmas
mod LawLemmas
