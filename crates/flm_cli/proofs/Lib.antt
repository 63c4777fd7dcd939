-- From the steps of `compare`, `inspect`, `plan` and `verify` to their ends.
pub mod CompareLemmas
pub mod ComparisonLemmas
pub mod FoundLemmas
pub mod InspectLemmas
pub mod LooksLemmas
pub mod PlanLemmas
pub mod TopLemmas
pub mod DifferenceLemmas
pub mod VerifyLemmas
pub mod PlaceLemmas
