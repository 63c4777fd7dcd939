-- What words ask for: lines, their options, addresses and names.
pub mod AddressLemmas
pub mod ArgumentLemmas
pub mod FitLemmas
pub mod LineLemmas
pub mod ScanLemmas
pub mod WordsLemmas
