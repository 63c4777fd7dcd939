-- A file at its place in a list.
use Rattle.std.specs.Prelude.{ℕ, List, [], get_or}

abbrev pub file_at : List (List ℕ) → ℕ → List ℕ
file_at files k = get_or files k []
