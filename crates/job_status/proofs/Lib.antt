-- From what `open` answers to the end of `status`.
pub mod StatusLemmas
