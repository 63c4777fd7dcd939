-- Bytes that are written as pairs of hexadecimal digits.
use Rattle.std.specs.Prelude.{ℕ, Bool, List, [], ◌∷◌, is_some, unwrap_or}
use Rattle.octets.specs.Digit.{hex_value, pair_value}

-- whether a byte of a text is a hexadecimal digit
abbrev pub is_hex_digit : ℕ → Bool
is_hex_digit byte = is_some (hex_value byte)

-- the bytes that pairs of digits stand for; a last digit without a partner is left out
abbrev pub pairs : List ℕ → List ℕ
pairs [] = []
pairs (last ∷ []) = []
pairs (high ∷ low ∷ rest) = unwrap_or (pair_value high low) 0 ∷ pairs rest
