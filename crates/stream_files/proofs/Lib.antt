-- Reads and writes, in as many calls as they take.
pub mod RunLemmas
