-- Searches in tables of sections, symbols and strings: the first that fits, and how a search ends.
pub mod SearchLemmas
pub mod StringLemmas
pub mod PlaceLemmas
pub mod SymbolLemmas
pub mod NameLemmas
