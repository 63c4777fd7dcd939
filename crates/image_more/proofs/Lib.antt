-- UF2 blocks and the rows of maps, and that a text or a file of a map is read as that map.
pub mod Uf2Lemmas
pub mod RowLemmas
pub mod DigitLemmas
pub mod ReadLemmas
pub mod StandLemmas
pub mod MapLemmas
pub mod HexLemmas
pub mod SrecLemmas
pub mod LawLemmas
pub mod Uf2Laws
pub mod AnyLemmas
pub mod FilesLemmas
