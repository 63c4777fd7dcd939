-- What words and FLM files say, and how a call ends.
pub mod WordLemmas
pub mod BoardAlgorithmsLemmas
pub mod EndLemmas
