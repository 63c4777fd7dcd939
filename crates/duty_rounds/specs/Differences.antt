-- The first cell that differs between two contents.
use Rattle.std.specs.Prelude.{◌≡◌, ◌≢◌, ◌<◌, ℕ, List, length, slice_index}
use Rattle.duty_rounds.specs.declared.verdict.Difference.{Difference}

-- the found contents differ from the wanted ones at this place, and not before it
pub record IsFirstDifference (found wanted : List ℕ) (d : Difference) : Type 0 where
  pub inside : d.place < length found
  pub among : d.place < length wanted
  pub is_found : slice_index found d.place ≡ d.found
  pub is_wanted : slice_index wanted d.place ≡ d.wanted
  pub unequal : d.found ≢ d.wanted
  pub same : (k : ℕ) → k < d.place → slice_index found k ≡ slice_index wanted k
