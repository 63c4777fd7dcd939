-- A window of cells.
use Rattle.std.specs.Prelude.{◌≡◌, ℕ, List, take, drop}

-- the first `len` of these bytes are those held from `at` on
abbrev pub IsCopy : (at len : ℕ) → (bytes held : List ℕ) → Type 0
IsCopy at len bytes held = take len bytes ≡ take len (drop at held)
