mod ListLemmas
mod DoneLemmas
pub mod LockstepLemmas
mod StoreLemmas
pub mod TargetLemmas
mod LaidLemmas
pub mod TickLemmas
pub mod StartLemmas
mod EndLemmas
mod LeadLemmas
mod DecidedLemmas
pub mod CellLemmas
pub mod NameLemmas
