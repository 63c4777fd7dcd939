-- A demonstration: what it makes, what its run leaves, and the lines that show it.
pub mod GeneratorLemmas
pub mod MadeLemmas
pub mod PlanLemmas
pub mod FixtureLemmas
pub mod RunLemmas
pub mod ShowLemmas
pub mod EndLemmas
