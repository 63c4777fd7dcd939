-- The body of a job, field by field: what was put is what is read, and a body says one job.
pub mod Steps
pub mod TakeLemmas
pub mod CoverLemmas
pub mod RunTextLemmas
pub mod FlmLemmas
pub mod RegionLemmas
pub mod HeadLemmas
pub mod BodyLemmas
pub mod RestLemmas
pub mod TextsLemmas
pub mod OneTextLemmas
pub mod ClassLemmas
pub mod OneClassLemmas
pub mod RunLemmas
pub mod LoopLemmas
pub mod FitLemmas
pub mod PartLemmas
