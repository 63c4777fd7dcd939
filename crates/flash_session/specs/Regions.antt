-- The regions of a target's board, by their order.
use Rattle.std.specs.Prelude.{Bool, true, not, IsTrue}
pub use Rattle.flash_session.specs.declared.cursor.RegionIndex.{RegionIndex}
pub use Rattle.flash_session.specs.declared.cursor.RegionIndex.TheVariants.{First, Second}

abbrev pub other_than : RegionIndex → RegionIndex
other_than First = Second
other_than Second = First

-- a board has this region; `has` says whether it has a second one
abbrev pub IsThere : (has : Bool) → RegionIndex → Type 0
IsThere has First = Unit {0}
IsThere has Second = IsTrue has

-- no region follows this one
abbrev pub is_last : (has : Bool) → RegionIndex → Bool
is_last has First = not has
is_last has Second = true
