-- Ticks, accesses and registers of a controller, row by row of its table.
pub mod TickLemmas
pub mod TouchLemmas
pub mod RegisterLemmas
pub mod RowLemmas
