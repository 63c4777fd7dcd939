-- Openings and turns of several targets, one after the other.
pub mod GangLemmas
mod OpenLemmas
mod OpeningLemmas
