-- A target's run: its steps, slices and ends, its RAM and registers, and what it leaves of the cells.
pub mod StepLemmas
pub mod UnitLemmas
pub mod PathLemmas
pub mod LoopLemmas
pub mod TargetLemmas
pub mod RamLemmas
pub mod RunLemmas
pub mod SliceLemmas
pub mod FineLemmas
pub mod EndLemmas
pub mod LawLemmas
pub mod StayLemmas
pub mod PlaceLemmas
pub mod LineLemmas
