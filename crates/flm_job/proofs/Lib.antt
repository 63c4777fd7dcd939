-- How a call of `flm_job` ends.
pub mod CallLemmas
