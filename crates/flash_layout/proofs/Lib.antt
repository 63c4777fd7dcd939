-- How an address, a sector or an area is found, and what the layout of a board keeps.
pub mod FindLemmas
pub mod SectorLemmas
pub mod BoardLemmas
pub mod WorkLemmas
