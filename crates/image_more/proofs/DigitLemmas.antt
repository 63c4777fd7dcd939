-- The digits of bytes, and the lines of a text.
use Rattle.std.proofs.Common.{◌≡◌, ◌<◌, ◌+◌, ◌*◌, ◌/◌, ◌%◌, ◌++◌, ◌∙◌, sym, ap, refl, arith, ℕ, Bool, true, false, cond, List, [], ◌∷◌, length}
use Rattle.std.proofs.Common.{get_or, take, Option, Some, append_assoc, zero-add}
use Rattle.std.proofs.lemmas.List.{take_more}
use Rattle.std.specs.Prelude.{◌&&◌, nat_le, is_some, unwrap_or, map}
use Rattle.std.specs.List.{All, list_all, range_with_len}
use Rattle.std.proofs.lemmas.Bool.Decides.{nat_tests}
use Rattle.std.proofs.lemmas.List.Elements.{All-nil, All-cons, All-head, All-tail, All-get_or}
use Rattle.std.proofs.lemmas.List.FromFn.{get_or-range_with_len}
use Rattle.std.proofs.lemmas.List.Sums.{AllPass-from_list_all}
use Rattle.octets.specs.Digit.{hex_value, byte_of_values, pair_value, upper_digit}
use Rattle.octets.specs.Lines.{is_line_feed, is_trailing, is_empty, content, in_front, whole_lines, lines_of}
use Rattle.octets.proofs.DigitLemmas.{hex_value-upper_digit}
use Rattle.octets.proofs.LineLemmas.{lines_of-none}
use Rattle.record_lines.specs.Digits.{is_hex_digit, pairs}
use Rattle.image_more.specs.Texts.{digits, text_of}

-- a byte is a number below 256
abbrev pub IsByte : ℕ → Type 0
IsByte byte = byte < 256

pair_of : (byte : ℕ) → byte < 256 → pair_value (upper_digit (byte / 16)) (upper_digit (byte % 16)) ≡ Some byte
pair_of byte small =
    ap (λ (o : Option ℕ). byte_of_values o (hex_value (upper_digit (byte % 16)))) (hex_value-upper_digit (byte / 16) (omega (arith, small)))
    ∙ ap (λ (o : Option ℕ). byte_of_values (Some (byte / 16)) o) (hex_value-upper_digit (byte % 16) (omega arith))
    ∙ ap (λ (n : ℕ). Some n) (let is : 16 * (byte / 16) + byte % 16 ≡ byte = omega arith in is)

-- the digits written for bytes are read as these bytes
pub pairs-digits : (bytes : List ℕ) → All IsByte bytes → pairs (digits bytes) ≡ bytes
pairs-digits [] small = refl
pairs-digits (byte ∷ bytes) small =
    ap (λ (o : Option ℕ). unwrap_or o 0 ∷ pairs (digits bytes)) (pair_of byte (All-head IsByte byte bytes small))
    ∙ ap (λ (l : List ℕ). byte ∷ l) (pairs-digits bytes (All-tail IsByte byte bytes small))

pub digits-are : (bytes : List ℕ) → All IsByte bytes → list_all is_hex_digit (digits bytes) ≡ true
digits-are [] small = refl
digits-are (byte ∷ bytes) small =
    let lt = All-head IsByte byte bytes small in
    ap (λ (o : Option ℕ). is_some o && (is_hex_digit (upper_digit (byte % 16)) && list_all is_hex_digit (digits bytes)))
    (hex_value-upper_digit (byte / 16) (omega (arith, lt)))
    ∙ ap (λ (o : Option ℕ). is_some o && list_all is_hex_digit (digits bytes)) (hex_value-upper_digit (byte % 16) (omega arith))
    ∙ digits-are bytes (All-tail IsByte byte bytes small)

pub length-digits : (bytes : List ℕ) → length (digits bytes) ≡ 2 * length bytes
length-digits [] = refl
length-digits (byte ∷ bytes) = let later = length-digits bytes in omega (arith, later)

digits-append : (xs ys : List ℕ) → digits (xs ++ ys) ≡ digits xs ++ digits ys
digits-append [] ys = refl
digits-append (x ∷ xs) ys = ap (λ (l : List ℕ). upper_digit (x / 16) ∷ upper_digit (x % 16) ∷ l) (digits-append xs ys)

-- the digits of one more byte, added one by one
pub digits_next : (mark bytes line : List ℕ) (i d : ℕ) → i < length bytes → line ≡ mark ++ digits (take i bytes)
    → (line ++ upper_digit (get_or bytes i d / 16) ∷ []) ++ upper_digit (get_or bytes i d % 16) ∷ [] ≡ mark ++ digits (take (i + 1) bytes)
digits_next mark bytes line i d less is =
    let byte = get_or bytes i d in
    append_assoc line (upper_digit (byte / 16) ∷ []) (upper_digit (byte % 16) ∷ [])
    ∙ ap (λ (l : List ℕ). l ++ upper_digit (byte / 16) ∷ upper_digit (byte % 16) ∷ []) is
    ∙ append_assoc mark (digits (take i bytes)) (upper_digit (byte / 16) ∷ upper_digit (byte % 16) ∷ [])
    ∙ ap (λ (l : List ℕ). mark ++ l) (sym (digits-append (take i bytes) (byte ∷ [])) ∙ ap digits (sym (take_more bytes i d less)))

-- Lines without blanks and line feeds.

abbrev pub IsMark : ℕ → Type 0
IsMark byte = nat_le 48 byte ≡ true

digit_is_mark : ℕ → Bool
digit_is_mark value = nat_le 48 (upper_digit value)

all_marks : list_all digit_is_mark (range_with_len 0 16) ≡ true
unfolding digit_is_mark
all_marks = refl

mark_of : (value : ℕ) → value < 16 → IsMark (upper_digit value)
unfolding digit_is_mark
mark_of value small =
    let pass = AllPass-from_list_all digit_is_mark (range_with_len 0 16) all_marks in
    let here = All-get_or (λ v. digit_is_mark v ≡ true) (range_with_len 0 16) value 0 small pass in
    let there : get_or (range_with_len 0 16) value 0 ≡ value = get_or-range_with_len 0 16 value 0 small ∙ zero-add value in
    rw there at here

pub marks-digits : (bytes : List ℕ) → All IsByte bytes → All IsMark (digits bytes)
marks-digits [] small = All-nil IsMark
marks-digits (byte ∷ bytes) small =
    let lt = All-head IsByte byte bytes small in
    All-cons IsMark (upper_digit (byte / 16)) (upper_digit (byte % 16) ∷ digits bytes) (mark_of (byte / 16) (omega (arith, lt)))
    (All-cons IsMark (upper_digit (byte % 16)) (digits bytes) (mark_of (byte % 16) (omega arith)) (marks-digits bytes (All-tail IsByte byte bytes small)))

no_feed : (byte : ℕ) → IsMark byte → is_line_feed byte ≡ false
no_feed byte mark = grind (arith, nat_tests)

no_blank : (byte : ℕ) → IsMark byte → is_trailing byte ≡ false
no_blank byte mark = grind (arith, nat_tests)

content-marks : (line : List ℕ) → All IsMark line → content line ≡ line
unfolding content
content-marks [] marks = refl
content-marks (byte ∷ line) marks =
    ap (λ (b : Bool). cond (b && is_empty (content line)) [] (byte ∷ content line)) (no_blank byte (All-head IsMark byte line marks))
    ∙ ap (λ (l : List ℕ). byte ∷ l) (content-marks line (All-tail IsMark byte line marks))

whole-marks : (line rest : List ℕ) → All IsMark line → whole_lines (line ++ 10 ∷ rest) ≡ line ∷ whole_lines rest
unfolding whole_lines
whole-marks [] rest marks = refl
whole-marks (byte ∷ line) rest marks =
    ap (λ (b : Bool). cond b ([] ∷ whole_lines (line ++ 10 ∷ rest)) (in_front byte (whole_lines (line ++ 10 ∷ rest))))
    (no_feed byte (All-head IsMark byte line marks))
    ∙ ap (in_front byte) (whole-marks line rest (All-tail IsMark byte line marks))

-- a text made of lines without blanks and line feeds has them as its lines
pub lines_of-text : (lines : List (List ℕ)) → All (λ line. All IsMark line) lines → lines_of (text_of lines) ≡ lines
lines_of-text [] marks = lines_of-none
lines_of-text (line ∷ lines) marks =
    let own = All-head (λ (l : List ℕ). All IsMark l) line lines marks in
    ap lines_of (append_assoc line (10 ∷ []) (text_of lines))
    ∙ ap (map content) (whole-marks line (text_of lines) own)
    ∙ ap (λ (l : List ℕ). l ∷ lines_of (text_of lines)) (content-marks line own)
    ∙ ap (λ (ls : List (List ℕ)). line ∷ ls) (lines_of-text lines (All-tail (λ (l : List ℕ). All IsMark l) line lines marks))
