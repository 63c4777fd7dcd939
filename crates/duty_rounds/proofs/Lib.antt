-- What lists that were tried say of one algorithm, and of several.
pub mod RoundLemmas
pub mod ContentLemmas
