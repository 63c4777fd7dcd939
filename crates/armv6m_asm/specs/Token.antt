-- The tokens of a line.
use Rattle.std.specs.Prelude.{ℕ, ◌==◌, ◌&&◌, ◌||◌, nat_le, Bool, List, [], ◌∷◌, if◌then◌else◌}

-- A word is a run of letters, digits, underscores and dots that is as long as possible. A mark is any other single byte that isn't a blank.
pub data Token : Type 0 where
  word : (bytes : List ℕ) → Token
  mark : (byte : ℕ) → Token

-- a blank: a space or a tab
abbrev pub is_blank : ℕ → Bool
is_blank byte = (byte == 32) || (byte == 9)

abbrev pub is_between : ℕ → ℕ → ℕ → Bool
is_between low high byte = nat_le low byte && nat_le byte high

-- a letter of a name: `A` to `Z`, `a` to `z`, or `_`
abbrev pub is_letter : ℕ → Bool
is_letter byte = is_between 65 90 byte || (is_between 97 122 byte || (byte == 95))

-- a decimal digit: `0` to `9`
abbrev pub is_digit : ℕ → Bool
is_digit byte = is_between 48 57 byte

-- a byte of a word: a letter, a digit or a dot
abbrev pub is_of_word : ℕ → Bool
is_of_word byte = is_letter byte || (is_digit byte || (byte == 46))

-- the tokens of a text that begins with a byte of a word, from its other bytes and their tokens
abbrev pub before_tokens : ℕ → List ℕ → List Token → List Token
before_tokens byte (next ∷ rest) (word bytes ∷ tokens) = if is_of_word next then word (byte ∷ bytes) ∷ tokens else word (byte ∷ []) ∷ word bytes ∷ tokens
before_tokens byte rest tokens = word (byte ∷ []) ∷ tokens

-- the tokens of a text. A semicolon begins a comment, which goes to the text's end.
unfoldable pub tokens_of : List ℕ → List Token
tokens_of [] = []
tokens_of (byte ∷ rest) =
    if byte == 59 then []
    else if is_blank byte then tokens_of rest
    else if is_of_word byte then before_tokens byte rest (tokens_of rest)
    else mark byte ∷ tokens_of rest
