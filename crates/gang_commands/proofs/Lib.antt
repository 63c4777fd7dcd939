-- Lines, refusals and ends of the targets of a gang, and what its status says of each bench.
mod OutcomeLemmas
mod LineLemmas
mod RefusalLemmas
pub mod WordLemmas
mod EndLemmas
mod CarryLemmas
pub mod TargetLemmas
mod CallLemmas
