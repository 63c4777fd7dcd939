-- The bytes of one data record have different addresses.
use Rattle.std.proofs.Common.{◌≡◌, ◌≢◌, ◌≤◌, ◌<◌, ◌+◌, ◌*◌, ◌%◌, ◌∙◌, ℕ, zero, suc, List, [], ◌∷◌, length, get_or, Some, Bool, cond}
use Rattle.std.proofs.Common.{ap, subst, arith}
use Rattle.std.specs.List.{All}
use Rattle.std.proofs.lemmas.List.Elements.{All-nil, All-cons}
use Rattle.record_lines.specs.Cells.{Cell, held, AreConsistent}
use Rattle.record_lines.proofs.CellLemmas.{same_number, other_number}
use Rattle.image_hex.specs.declared.record.Base.{Base}
use Rattle.image_hex.specs.declared.record.Base.TheVariants.{Upper, Segment}
use Rattle.image_hex.specs.Hex.{address_of, data_cells}

apart_behind : (base : Base) (offset k : ℕ) → 0 < k → k < 256 → address_of base (offset + k) ≢ address_of base offset
apart_behind (Upper half) offset k some few same =
    let is : (half * 65536 + (offset + k)) % 4294967296 ≡ (half * 65536 + offset) % 4294967296 = same in
    omega arith
apart_behind (Segment segment) offset k some few same =
    let is : segment * 16 + (offset + k) % 65536 ≡ segment * 16 + offset % 65536 = same in
    omega arith

held-data : (base : Base) (offset : ℕ) (bytes : List ℕ) (k : ℕ) → length bytes ≤ 255 → k < length bytes →
    held (data_cells base offset bytes) (address_of base (offset + k)) ≡ Some (get_or bytes k 0)
held-data base offset [] k few lt = absurd (omega arith)
held-data base offset (byte ∷ bytes) zero few lt =
    ap (λ (b : Bool). cond b (Some byte) (held (data_cells base (offset + 1) bytes) (address_of base (offset + 0))))
    (same_number (address_of base (offset + 0)) (address_of base offset) (ap (address_of base) (let is : offset + 0 ≡ offset = omega arith in is)))
held-data base offset (byte ∷ bytes) (suc k) few lt =
    ap (λ (b : Bool). cond b (Some byte) (held (data_cells base (offset + 1) bytes) (address_of base (offset + suc k))))
    (other_number (address_of base (offset + suc k)) (address_of base offset) (apart_behind base offset (suc k) (omega arith) (omega arith)))
    ∙ ap (λ (n : ℕ). held (data_cells base (offset + 1) bytes) (address_of base n)) (let is : offset + suc k ≡ offset + 1 + k = omega arith in is)
    ∙ held-data base (offset + 1) bytes k (omega arith) (omega arith)

all_data : (P : Cell → Type 0) (base : Base) (offset : ℕ) (bytes : List ℕ) →
    ((k : ℕ) → k < length bytes → P (record { at = address_of base (offset + k); byte = get_or bytes k 0 })) → All P (data_cells base offset bytes)
all_data P base offset [] each = All-nil P
all_data P base offset (byte ∷ bytes) each =
    All-cons P (record { at = address_of base offset; byte = byte }) (data_cells base (offset + 1) bytes)
    (subst (λ (n : ℕ). P (record { at = address_of base n; byte = byte })) (let is : offset + 0 ≡ offset = omega arith in is) (each 0 (omega arith)))
    (all_data P base (offset + 1) bytes (λ k lt.
    subst (λ (n : ℕ). P (record { at = address_of base n; byte = get_or bytes k 0 })) (let is : offset + suc k ≡ offset + 1 + k = omega arith in is)
    (each (suc k) (omega arith))))

pub consistent_data : (base : Base) (offset : ℕ) (bytes : List ℕ) → length bytes ≤ 255 → AreConsistent (data_cells base offset bytes)
consistent_data base offset bytes few = all_data (λ (cell : Cell). held (data_cells base offset bytes) cell.at ≡ Some cell.byte) base offset bytes
    (λ k lt. held-data base offset bytes k few lt)
