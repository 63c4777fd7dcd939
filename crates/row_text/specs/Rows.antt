-- What the words and the lines of rows stand for.
use Rattle.std.specs.Prelude.{◌≡◌, ◌⊎◌, ℕ, ◌==◌, Bool, List, [], ◌∷◌, ◌++◌, map, Ok, if◌then◌else◌}
use Rattle.std.specs.List.{after_first, before_first, repeat}
use Rattle.std.specs.Str.Parse.{digits_value, without_leading_plus}
use Rattle.hex.specs.Hex.{decode_of}

-- the byte that a byte of a row stands for: a bar (124) is a line feed (10)
abbrev pub ended : ℕ → ℕ
ended byte = if byte == 124 then 10 else byte

-- the text of lines that are joined by bars
abbrev pub lines_in : List ℕ → List ℕ
lines_in text = map ended text ++ 10 ∷ []

-- whether a byte is a star
abbrev pub is_star : ℕ → Bool
is_star byte = byte == 42

-- pairs of digits, a star, and in decimal digits how many times the bytes of these pairs are repeated
pub record StandOften (word bytes : List ℕ) : Type 0 where
  pub once : List ℕ
  pub pairs : decode_of (before_first is_star word) ≡ Ok once
  pub often : bytes ≡ repeat (digits_value 10 (without_leading_plus (after_first is_star word))) once

-- the bytes of a word: none for a dash (45), those of its pairs of digits, or these repeated as often as it says
abbrev pub IsCounted : List ℕ → List ℕ → Type 0
IsCounted word bytes = ((word ≡ 45 ∷ []) × (bytes ≡ [])) ⊎ ((decode_of word ≡ Ok bytes) ⊎ StandOften word bytes)
