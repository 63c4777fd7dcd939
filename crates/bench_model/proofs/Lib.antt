-- Counts of faults, moments of calls in turn, and what each call does to a bench in memory and to its record.
pub mod CountLemmas
pub mod Moments
pub mod RecordLemmas
mod MarkLemmas
pub mod LeftLemmas
pub mod MemoryLemmas
mod LossLemmas
