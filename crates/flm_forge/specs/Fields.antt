-- Little-endian fields, one after the other (System V ABI, chapter 4, "Data Representation").
use Rattle.std.specs.Prelude.{ℕ, List}
use Rattle.std.specs.List.{flat_map}
use Rattle.std.specs.Int.{w16, w32, to_le_bytes}

-- the bytes of a 16-bit field
abbrev pub half_bytes : ℕ → List ℕ
half_bytes number = to_le_bytes w16 number

-- the bytes of a 32-bit field
abbrev pub word_bytes : ℕ → List ℕ
word_bytes number = to_le_bytes w32 number

abbrev pub halves_bytes : List ℕ → List ℕ
halves_bytes numbers = flat_map half_bytes numbers

abbrev pub words_bytes : List ℕ → List ℕ
words_bytes numbers = flat_map word_bytes numbers
