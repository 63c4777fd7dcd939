-- Lemmas on the tokens of a line.
use Rattle.std.proofs.Common.{◌≡◌, ◌≢◌, ◌∙◌, sym, ap, refl, ℕ, ◌+◌, ◌-◌, ◌<◌, length, get_or, ◌==◌, Bool, true, false, List, [], ◌∷◌, take, drop, arith}
use Rattle.std.proofs.Common.{one-add, ne_eqb, eq-eqb}
use Rattle.std.proofs.lemmas.List.{take_all, length-drop}
use Rattle.std.specs.List.{prefix_len}
use Rattle.armv6m_asm.specs.Token.{Token, word, mark, is_blank, is_of_word, before_tokens, tokens_of}

-- a byte that passes a test isn't one that fails it
other_than : (p : ℕ → Bool) (byte other : ℕ) → p byte ≡ true → p other ≡ false → (byte == other) ≡ false
other_than p byte other passes fails = ne_eqb byte other (λ same. let e : p byte ≡ p other = ap p same in cc)

tokens_of-blank : (byte : ℕ) (rest : List ℕ) → is_blank byte ≡ true → tokens_of (byte ∷ rest) ≡ tokens_of rest
unfolding tokens_of
tokens_of-blank byte rest h = let comment = other_than is_blank byte 59 h refl in rw (comment, h) refl

-- blanks at the beginning don't change the tokens
blanks : (v : Bool) (byte : ℕ) (rest : List ℕ) → is_blank byte ≡ v → tokens_of (drop (prefix_len is_blank rest) rest) ≡ tokens_of rest
    → tokens_of (drop (prefix_len is_blank (byte ∷ rest)) (byte ∷ rest)) ≡ tokens_of (byte ∷ rest)
blanks true byte rest h later = rw (h, one-add (prefix_len is_blank rest)) (later ∙ sym (tokens_of-blank byte rest h))
blanks false byte rest h later = rw h refl

pub tokens_of-blanks : (line : List ℕ) → tokens_of (drop (prefix_len is_blank line) line) ≡ tokens_of line
tokens_of-blanks [] = refl
tokens_of-blanks (byte ∷ rest) = blanks (is_blank byte) byte rest refl (tokens_of-blanks rest)

pub tokens_of-none : tokens_of [] ≡ []
unfolding tokens_of
tokens_of-none = refl

pub tokens_of-empty : (text : List ℕ) → length text < 1 → tokens_of text ≡ []
tokens_of-empty [] none = tokens_of-none
tokens_of-empty (byte ∷ rest) none = absurd (omega arith)

pub tokens_of-comment : (byte : ℕ) (rest : List ℕ) → (byte == 59) ≡ true → tokens_of (byte ∷ rest) ≡ []
unfolding tokens_of
tokens_of-comment byte rest h = rw h refl

pub tokens_of-mark : (byte : ℕ) (rest : List ℕ) → (byte == 59) ≡ false → is_blank byte ≡ false → is_of_word byte ≡ false
    → tokens_of (byte ∷ rest) ≡ mark byte ∷ tokens_of rest
unfolding tokens_of
tokens_of-mark byte rest a b c = rw (a, b, c) refl

-- a byte of a word goes into the first token of the text after it
in_word : (byte : ℕ) (rest : List ℕ) → is_of_word byte ≡ true → tokens_of (byte ∷ rest) ≡ before_tokens byte rest (tokens_of rest)
unfolding tokens_of
in_word byte rest h =
    let comment = other_than is_of_word byte 59 h refl in
    let space = other_than is_of_word byte 32 h refl in
    let tab = other_than is_of_word byte 9 h refl in
    rw (comment, space, tab, h) refl

-- a byte of a word before a byte that isn't of a word is a token by itself
last_of_word : (byte next : ℕ) (rest : List ℕ) (tokens : List Token) → is_of_word next ≡ false
    → before_tokens byte (next ∷ rest) tokens ≡ word (byte ∷ []) ∷ tokens
last_of_word byte next rest [] h = refl
last_of_word byte next rest (word bytes ∷ tokens) h = rw h refl
last_of_word byte next rest (mark other ∷ tokens) h = refl

-- a text that begins with a byte of a word, and its tokens
BeginsWithWord : List ℕ → Type 0
BeginsWithWord text = tokens_of text ≡ word (take (prefix_len is_of_word text) text) ∷ tokens_of (drop (prefix_len is_of_word text) text)

longer : (v : Bool) (byte next : ℕ) (rest : List ℕ) → is_of_word byte ≡ true → is_of_word next ≡ v → (v ≡ true → BeginsWithWord (next ∷ rest)) →
    BeginsWithWord (byte ∷ next ∷ rest)
unfolding BeginsWithWord
longer true byte next rest h n later =
    in_word byte (next ∷ rest) h ∙ ap (before_tokens byte (next ∷ rest)) (later refl)
    ∙ (rw (h, n, one-add (1 + prefix_len is_of_word rest)) refl)
longer false byte next rest h n later = in_word byte (next ∷ rest) h ∙ last_of_word byte next rest (tokens_of (next ∷ rest)) n ∙ (rw (h, n) refl)

begins : (byte : ℕ) (rest : List ℕ) → is_of_word byte ≡ true → BeginsWithWord (byte ∷ rest)
unfolding BeginsWithWord
begins byte [] h = in_word byte [] h ∙ (rw (h, tokens_of-none) refl)
begins byte (next ∷ rest) h = longer (is_of_word next) byte next rest h refl (begins next rest)

-- ---- by the first byte of a text

pub first_of_word : (text : List ℕ) → is_of_word (get_or text 0 0) ≡ true
    → tokens_of text ≡ word (take (prefix_len is_of_word text) text) ∷ tokens_of (drop (prefix_len is_of_word text) text)
unfolding BeginsWithWord
first_of_word [] h = absurd (cc)
first_of_word (byte ∷ rest) h = begins byte rest h

pub first_is_mark : (text : List ℕ) → 0 < length text → get_or text 0 0 ≢ 59 → is_blank (get_or text 0 0) ≡ false
    → is_of_word (get_or text 0 0) ≡ false → tokens_of text ≡ mark (get_or text 0 0) ∷ tokens_of (drop 1 text)
first_is_mark [] some comment blank of_word = absurd (omega arith)
first_is_mark (byte ∷ rest) some comment blank of_word = tokens_of-mark byte rest (ne_eqb byte 59 comment) blank of_word

pub first_begins_comment : (text : List ℕ) → get_or text 0 0 ≡ 59 → tokens_of text ≡ []
first_begins_comment [] comment = tokens_of-none
first_begins_comment (byte ∷ rest) comment = tokens_of-comment byte rest (eq-eqb byte 59 comment)

-- the first byte after the blanks isn't a blank
pub first_behind_blanks : (line : List ℕ) → is_blank (get_or (drop (prefix_len is_blank line) line) 0 0) ≡ false
first_behind_blanks [] = refl
first_behind_blanks (byte ∷ rest) = behind (is_blank byte) byte rest refl (first_behind_blanks rest) where
  behind : (v : Bool) (byte : ℕ) (rest : List ℕ) → is_blank byte ≡ v → is_blank (get_or (drop (prefix_len is_blank rest) rest) 0 0) ≡ false
      → is_blank (get_or (drop (prefix_len is_blank (byte ∷ rest)) (byte ∷ rest)) 0 0) ≡ false
  behind true byte rest h later = rw (h, one-add (prefix_len is_blank rest)) later
  behind false byte rest h later = rw h h

-- a slice from a place to the end of a text
pub lent_rest : (text : List ℕ) (n : ℕ) → take (length text - n) (drop n text) ≡ drop n text
lent_rest text n = take_all (length text - n) (drop n text) (omega (arith, length-drop n text))
