-- What the trial of a list of calls says of an algorithm, call after call.
pub mod BeginLemmas
pub mod ListLemmas
pub mod IdealLemmas
pub mod LoopLemmas
pub mod SubjectLemmas
pub mod TallyLemmas
pub mod MakeLemmas
pub mod TrialLemmas
pub mod WatchLemmas
pub mod WorkLemmas
