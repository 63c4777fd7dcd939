-- The parts of a job: where they are in its file, and that what is put is these parts.
pub mod LengthLemmas
pub mod GiveLemmas
pub mod HashLemmas
pub mod ListingLemmas
pub mod MendedLemmas
