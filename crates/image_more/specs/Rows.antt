-- The rows of a map: its runs, cut at every address that is a multiple of 16.
use Rattle.std.specs.Prelude.{ℕ, ◌+◌, ◌%◌, ◌==◌, Bool, true, false, List, [], ◌∷◌}
use Rattle.std.specs.List.{flat_map}
use Rattle.byte_map.specs.Image.{Run}

-- rows with one more byte before them: in the first row, or in a row of its own where the first begins at a multiple of 16 or is missing
abbrev pub with_byte : ℕ → ℕ → Bool → List Run → List Run
with_byte at byte true rows = record { at = at; bytes = byte ∷ [] } ∷ rows
with_byte at byte false [] = record { at = at; bytes = byte ∷ [] } ∷ []
with_byte at byte false (row ∷ rows) = record { at = at; bytes = byte ∷ row.bytes } ∷ rows

-- the rows of bytes from an address on
abbrev pub run_rows : ℕ → List ℕ → List Run
run_rows at [] = []
run_rows at (byte ∷ bytes) = with_byte at byte ((at + 1) % 16 == 0) (run_rows (at + 1) bytes)

-- the rows of a map, in rising order
abbrev pub rows_of : List Run → List Run
rows_of map = flat_map (λ run. run_rows run.at run.bytes) map
