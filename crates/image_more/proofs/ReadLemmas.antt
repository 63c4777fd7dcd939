-- What written lines of records are read as.
use Rattle.std.proofs.Common.{◌≡◌, ◌≤◌, ◌<◌, ◌+◌, ◌-◌, ◌*◌, ◌/◌, ◌%◌, ◌^◌, ◌++◌, ◌∙◌, sym, ap, refl, arith, ℕ, Bool, true, false, cond, List, [], ◌∷◌, length}
use Rattle.std.proofs.Common.{get_or, take, drop, Some, Ok, Err}
use Rattle.std.specs.Prelude.{◌==◌, ◌||◌, not, nat_lt, nat_le, slice_range}
use Rattle.std.specs.List.{All, list_all}
use Rattle.std.proofs.lemmas.Bool.Decides.{nat_tests}
use Rattle.std.proofs.lemmas.List.{length_push, get_or_push, take-append-le, take_all}
use Rattle.std.proofs.lemmas.List.Elements.{All-nil, All-cons, All-append}
use Rattle.byte_map.specs.Image.{Run}
use Rattle.record_lines.specs.Digits.{is_hex_digit, pairs}
use Rattle.record_lines.proofs.CellLemmas.{same_number}
use Rattle.image_hex.specs.declared.fault.HexKind.TheVariants as hex_kind
use Rattle.image_hex.specs.Record as hex_record
use Rattle.image_srec.specs.declared.fault.SrecKind.TheVariants as srec_kind
use Rattle.image_srec.specs.declared.record.SrecRecord.TheVariants as srec_type
use Rattle.image_srec.specs.Record as srec_record
use Rattle.image_more.specs.Texts.{digits, hex_bytes, hex_line, srec_bytes, srec_line}
use Rattle.image_more.proofs.DigitLemmas.{IsByte, pairs-digits, digits-are, length-digits}

take_front : (bytes : List ℕ) (c : ℕ) → take (length bytes) (bytes ++ c ∷ []) ≡ bytes
take_front bytes c = take-append-le (length bytes) bytes (c ∷ []) (omega arith) ∙ take_all (length bytes) bytes (omega arith)

pub not_less : (a b : ℕ) → b ≤ a → nat_lt a b ≡ false
not_less a b le = grind (arith, nat_tests)

no_more : (a b : ℕ) → a ≤ b → nat_le a b ≡ true
no_more a b le = grind (arith, nat_tests)

-- Intel HEX.

-- the reading of a record by the place of its checksum
abbrev hex_at : List ℕ → ℕ → hex_record.Reading
hex_at all n =
    cond (get_or all n 0 == hex_record.checksum_of (take n all))
    (hex_record.record_of (get_or all 3 0) (hex_record.word_of (drop 1 all)) (slice_range all 4 n))
    (Err (hex_kind.BadSum (get_or all n 0) (hex_record.checksum_of (take n all))))

hex_checked : (bytes : List ℕ) (c : ℕ) → c ≡ hex_record.checksum_of bytes
    → hex_record.checked (bytes ++ c ∷ []) ≡ hex_record.record_of (get_or (bytes ++ c ∷ []) 3 0) (hex_record.word_of (drop 1 (bytes ++ c ∷ [])))
    (slice_range (bytes ++ c ∷ []) 4 (length bytes))
hex_checked bytes c is =
    let all = bytes ++ c ∷ [] in
    let n = length bytes in
    let last : length all - 1 ≡ n = omega (arith, length_push bytes c) in
    let same : get_or all n 0 ≡ hex_record.checksum_of (take n all) = get_or_push bytes c 0 n refl ∙ is ∙
    ap hex_record.checksum_of (sym (take_front bytes c)) in
    ap (hex_at all) last
    ∙ ap (λ (b : Bool). cond b (hex_record.record_of (get_or all 3 0) (hex_record.word_of (drop 1 all)) (slice_range all 4 n))
    (Err (hex_kind.BadSum (get_or all n 0) (hex_record.checksum_of (take n all)))))
    (same_number (get_or all n 0) (hex_record.checksum_of (take n all)) same)

abbrev hex_by_length : List ℕ → List ℕ → hex_record.Reading
hex_by_length ds all = cond (nat_lt (length ds) 10 || not (length ds == 10 + 2 * get_or all 0 0)) (Err hex_kind.BadLength) (hex_record.checked all)

hex_digits_read : (ds all : List ℕ) → list_all is_hex_digit ds ≡ true → pairs ds ≡ all → 10 ≤ length ds → length ds ≡ 10 + 2 * get_or all 0 0 →
    hex_record.read_digits ds ≡ hex_record.checked all
hex_digits_read ds all are is long counted =
    ap (λ (b : Bool). cond (not b) (Err hex_kind.BadDigit) (hex_by_length ds (pairs ds))) are
    ∙ ap (hex_by_length ds) is
    ∙ ap (λ (b : Bool). cond (b || not (length ds == 10 + 2 * get_or all 0 0)) (Err hex_kind.BadLength) (hex_record.checked all)) (not_less (length ds) 10 long)
    ∙ ap (λ (b : Bool). cond (not b) (Err hex_kind.BadLength) (hex_record.checked all)) (same_number (length ds) (10 + 2 * get_or all 0 0) counted)

hex_sum_small : (n : ℕ) → (256 - n % 256) % 256 < 256
hex_sum_small n = omega arith

small_bytes : (bytes : List ℕ) (c : ℕ) → All IsByte bytes → c < 256 → All IsByte (bytes ++ c ∷ [])
small_bytes bytes c small c_small = All-append IsByte bytes (c ∷ []) small (All-cons IsByte c [] c_small (All-nil IsByte))

pub small_hex : (kind offset : ℕ) (bytes : List ℕ) → kind < 256 → offset < 65536 → length bytes ≤ 16 → All IsByte bytes →
    All IsByte (hex_bytes kind offset bytes ++ hex_record.checksum_of (hex_bytes kind offset bytes) ∷ [])
small_hex kind offset bytes kind_small offset_small few small =
    small_bytes (hex_bytes kind offset bytes) (hex_record.checksum_of (hex_bytes kind offset bytes))
    (All-cons IsByte (length bytes) (offset / 256 ∷ offset % 256 ∷ kind ∷ bytes) (omega (arith, few))
    (All-cons IsByte (offset / 256) (offset % 256 ∷ kind ∷ bytes) (omega (arith, offset_small))
    (All-cons IsByte (offset % 256) (kind ∷ bytes) (omega arith)
    (All-cons IsByte kind bytes kind_small small))))
    (hex_sum_small _)

-- the line written for a record of Intel HEX is read as that record
pub hex_read : (kind offset : ℕ) (bytes : List ℕ) → kind < 256 → offset < 65536 → length bytes ≤ 16 → All IsByte bytes →
    hex_record.read_line (hex_line kind offset bytes) ≡ hex_record.record_of kind offset bytes
unfolding hex_line
hex_read kind offset bytes kind_small offset_small few small =
    let front = hex_bytes kind offset bytes in
    let c = hex_record.checksum_of front in
    let all = front ++ c ∷ [] in
    let bytes_are = small_hex kind offset bytes kind_small offset_small few small in
    let long = length-digits all in
    let tail = length_push bytes c in
    hex_digits_read (digits all) all (digits-are all bytes_are) (pairs-digits all bytes_are) (omega (arith, long, tail)) (omega (arith, long, tail))
    ∙ hex_checked front c refl
    ∙ ap (λ (w : ℕ). hex_record.record_of kind w (take (length front - 4) (bytes ++ c ∷ [])))
    (let w : offset / 256 * 256 + offset % 256 ≡ offset = omega arith in w)
    ∙ ap (λ (n : ℕ). hex_record.record_of kind offset (take n (bytes ++ c ∷ []))) (let n : length front - 4 ≡ length bytes = omega arith in n)
    ∙ ap (hex_record.record_of kind offset) (take_front bytes c)

-- S-records.

abbrev srec_at : List ℕ → ℕ → srec_record.Reading
srec_at all n =
    cond (get_or all n 0 == srec_record.checksum_of (take n all))
    (Ok (Some (srec_type.Data (srec_record.number_of (slice_range all 1 5)) (slice_range all 5 n))))
    (Err (srec_kind.BadSum (get_or all n 0) (srec_record.checksum_of (take n all))))

srec_checked : (bytes : List ℕ) (c : ℕ) → c ≡ srec_record.checksum_of bytes
    → srec_record.checked 3 (bytes ++ c ∷ []) ≡ Ok (Some (srec_type.Data (srec_record.number_of (slice_range (bytes ++ c ∷ []) 1 5))
    (slice_range (bytes ++ c ∷ []) 5 (length bytes))))
srec_checked bytes c is =
    let all = bytes ++ c ∷ [] in
    let n = length bytes in
    let last : length all - 1 ≡ n = omega (arith, length_push bytes c) in
    let same : get_or all n 0 ≡ srec_record.checksum_of (take n all) = get_or_push bytes c 0 n refl ∙ is ∙
    ap srec_record.checksum_of (sym (take_front bytes c)) in
    ap (srec_at all) last
    ∙ ap (λ (b : Bool). cond b (Ok (Some (srec_type.Data (srec_record.number_of (slice_range all 1 5)) (slice_range all 5 n))))
    (Err (srec_kind.BadSum (get_or all n 0) (srec_record.checksum_of (take n all)))))
    (same_number (get_or all n 0) (srec_record.checksum_of (take n all)) same)

abbrev srec_by_length : List ℕ → List ℕ → srec_record.Reading
srec_by_length ds all = cond (nat_lt (length ds) 2 || (not (length ds == 2 + 2 * get_or all 0 0) || not (nat_le 5 (get_or all 0 0)))) (Err srec_kind.BadLength)
    (srec_record.checked 3 all)

srec_digits_read : (ds all : List ℕ) → list_all is_hex_digit ds ≡ true → pairs ds ≡ all → 2 ≤ length ds → length ds ≡ 2 + 2 * get_or all 0 0 →
    5 ≤ get_or all 0 0
    → srec_record.read_digits 3 ds ≡ srec_record.checked 3 all
srec_digits_read ds all are is long counted enough =
    ap (λ (b : Bool). cond (not b) (Err srec_kind.BadDigit) (srec_by_length ds (pairs ds))) are
    ∙ ap (srec_by_length ds) is
    ∙ ap (λ (b : Bool). cond (b || (not (length ds == 2 + 2 * get_or all 0 0) || not (nat_le 5 (get_or all 0 0)))) (Err srec_kind.BadLength)
    (srec_record.checked 3 all)) (not_less (length ds) 2 long)
    ∙ ap (λ (b : Bool). cond (not b || not (nat_le 5 (get_or all 0 0))) (Err srec_kind.BadLength) (srec_record.checked 3 all))
    (same_number (length ds) (2 + 2 * get_or all 0 0) counted)
    ∙ ap (λ (b : Bool). cond (not b) (Err srec_kind.BadLength) (srec_record.checked 3 all)) (no_more 5 (get_or all 0 0) enough)

srec_sum_small : (n : ℕ) → 255 - n % 256 < 256
srec_sum_small n = omega arith

pub small_srec : (row : Run) → row.at < 2 ^ 32 → length row.bytes ≤ 16 → All IsByte row.bytes →
    All IsByte (srec_bytes row ++ srec_record.checksum_of (srec_bytes row) ∷ [])
small_srec row inside few small =
    let at = row.at in
    small_bytes (srec_bytes row) (srec_record.checksum_of (srec_bytes row))
    (All-cons IsByte (length row.bytes + 5) (at / 16777216 ∷ at / 65536 % 256 ∷ at / 256 % 256 ∷ at % 256 ∷ row.bytes) (omega (arith, few))
    (All-cons IsByte (at / 16777216) (at / 65536 % 256 ∷ at / 256 % 256 ∷ at % 256 ∷ row.bytes) (omega (arith, inside))
    (All-cons IsByte (at / 65536 % 256) (at / 256 % 256 ∷ at % 256 ∷ row.bytes) (omega arith)
    (All-cons IsByte (at / 256 % 256) (at % 256 ∷ row.bytes) (omega arith)
    (All-cons IsByte (at % 256) row.bytes (omega arith) small)))))
    (srec_sum_small _)

-- the line written for an S3 record is read as that record
pub srec_read : (row : Run) → row.at < 2 ^ 32 → length row.bytes ≤ 16 → All IsByte row.bytes →
    srec_record.read_line (srec_line row) ≡ Ok (Some (srec_type.Data row.at row.bytes))
unfolding srec_line
srec_read row inside few small =
    let at = row.at in
    let front = srec_bytes row in
    let c = srec_record.checksum_of front in
    let all = front ++ c ∷ [] in
    let bytes_are = small_srec row inside few small in
    let long = length-digits all in
    let tail = length_push row.bytes c in
    srec_digits_read (digits all) all (digits-are all bytes_are) (pairs-digits all bytes_are) (omega (arith, long, tail)) (omega (arith, long, tail))
    (omega arith)
    ∙ srec_checked front c refl
    ∙ ap (λ (w : ℕ). Ok (Some (srec_type.Data w (take (length front - 5) (row.bytes ++ c ∷ [])))))
    (let w : ((at / 16777216 * 256 + at / 65536 % 256) * 256 + at / 256 % 256) * 256 + at % 256 ≡ at = omega arith in w)
    ∙ ap (λ (n : ℕ). Ok (Some (srec_type.Data at (take n (row.bytes ++ c ∷ []))))) (let n : length front - 5 ≡ length row.bytes = omega arith in n)
    ∙ ap (λ (bytes : List ℕ). Ok (Some (srec_type.Data at bytes))) (take_front row.bytes c)
