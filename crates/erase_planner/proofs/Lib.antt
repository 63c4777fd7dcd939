-- The chosen plan: it leads to the wanted contents, what it costs, and no list of actions costs less.
pub mod NeedLemmas
pub mod SetLemmas
pub mod LeastLemmas
pub mod ReachLemmas
pub mod CostLemmas
pub mod FeedLemmas
pub mod FillLemmas
pub mod FinishLemmas
pub mod LawLemmas
