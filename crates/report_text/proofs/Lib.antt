-- The lines of reports: how they are put together, and what they say of a target.
pub mod PlanLemmas
pub mod StatusLemmas
pub mod DoneLemmas
pub mod PlainLemmas
mod JobLemmas
