-- Powers of two that fit 32 bits.
pub mod PowerLemmas
