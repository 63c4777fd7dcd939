-- Cells read as numbers.
use Rattle.std.specs.Prelude.{ℕ, ◌+◌, ◌*◌, List, [], ◌∷◌, take, drop}

-- the number with these bytes, the lowest byte first
abbrev pub value_of : List ℕ → ℕ
value_of [] = 0
value_of (b ∷ rest) = b + 0x100 * value_of rest

-- `width` cells from a place on
abbrev pub cells_at : List ℕ → ℕ → ℕ → List ℕ
cells_at cells at width = take width (drop at cells)
