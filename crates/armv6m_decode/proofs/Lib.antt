-- The table of instructions: its masks, its conditions, and that no halfword fits two different rows.
pub mod RowsLemmas
pub mod Masks
pub mod ConditionLemmas
pub mod TableLemmas
pub mod Near
