pub mod AlikeLemmas
pub mod TableLemmas
pub mod RunLemmas
pub mod StateLemmas
pub mod LastLemmas
