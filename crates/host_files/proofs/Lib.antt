-- Benches of one program, each opened beside those before it.
pub mod BesideLemmas
