-- Where cells differ from bytes.
use Rattle.std.specs.Prelude.{◌≡◌, ◌≢◌, ◌<◌, ◌+◌, ℕ, Bool, IsTrue, List, length, take, drop, slice_index}

-- The cells from a place on differ from these bytes first at an offset, where one byte is wanted and another is found.
-- What is said of the cells holds only where the bench tells its cells.
pub record IsFirstDifference (tells : Bool) (cells : List ℕ) (from : ℕ) (bytes : List ℕ) (offset wanted found : ℕ) : Type 0 where
  pub within : offset < length bytes
  pub is_wanted : slice_index bytes offset ≡ wanted
  pub unequal : wanted ≢ found
  pub is_found : IsTrue tells → slice_index cells (from + offset) ≡ found
  pub least : IsTrue tells → take offset (drop from cells) ≡ take offset bytes
