-- What was seen on a watched bench.
use Rattle.std.specs.Prelude.{◌≡◌, ◌<◌, ◌≤◌, ◌+◌, ℕ, List, length, Option, Some, None}
use Rattle.bench_model.specs.History.{Half}
use Rattle.bench_model.specs.State.{SameOutside}

-- At some moment up to now an operation was open on a range: a loss of power then might have left any bytes there.
pub record WasOpen (range : ℕ × ℕ) (h : Half) : Type 0 where
  pub moment : ℕ
  pub past : moment ≤ h.now
  pub cells : List ℕ
  pub some : 0 < range.1
  pub within : range.0 + range.1 ≤ length cells
  pub may : (x : List ℕ) → SameOutside (Some range) cells x → h.at moment x

-- the operation that was seen outside, if one was, was open at some moment
pub record Was (outside : Option (ℕ × ℕ)) (h : Half) : Type 0 where
  pub was : (range : ℕ × ℕ) → outside ≡ Some range → WasOpen range h

-- an operation was seen outside, said as a proposition: a ghost field has to be one
abbrev pub IsSeen : Option (ℕ × ℕ) → Half → Type 0
IsSeen outside h = (Was outside h → ⊥) → ⊥

-- a range of cells is within the bounds from `from` to `to`, if there is a range
abbrev pub PlaceIn : ℕ → ℕ → Option (ℕ × ℕ) → Type 0
PlaceIn from to None = Unit {0}
PlaceIn from to (Some place) = (from ≤ place.0) × (place.0 + place.1 ≤ to)
