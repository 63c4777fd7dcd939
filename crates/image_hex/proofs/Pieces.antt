-- The bytes of a data record as one or two pieces.
use Rattle.std.proofs.Common.{◌≡◌, ⊎_elim, ◌≤◌, ◌<◌, ◌+◌, ◌-◌, ℕ, suc, List, [], ◌∷◌, ◌++◌, length, take, drop, Option, Some, None, Result, Ok, Err, OnOk}
use Rattle.std.proofs.Common.{IfErr, min, refl, sym, ap, subst, ◌∙◌, arith}
use Rattle.std.proofs.lemmas.Bool.{cases_lt}
use Rattle.record_lines.specs.declared.fault.ClashFault.{ClashFault}
use Rattle.record_lines.specs.declared.fault.ClashFault.TheVariants.{Conflict, OutOfMemory}
use Rattle.record_lines.specs.Clashes.{IsClashFault}
use Rattle.std.proofs.lemmas.List.{append_assoc, take-append-drop, length-take, length-drop}
use Rattle.byte_map.specs.Image.{Run}
use Rattle.record_lines.specs.Cells.{Cell, held, cells_from, Clash, clash_with, first_clash, IsImageOf}
use Rattle.record_lines.proofs.CellLemmas.{held-append, held-none_below, held-none_above, first_clash-append, first_clash-some}
use Rattle.byte_map.proofs.Runs.{or_else}
use Rattle.image_hex.specs.declared.record.Base.{Base}
use Rattle.image_hex.specs.Hex.{address_of, data_cells}

-- bytes at addresses that follow one another
pub straight : (base : Base) (offset at : ℕ) (bytes : List ℕ) → ((k : ℕ) → k < length bytes → address_of base (offset + k) ≡ at + k) →
    data_cells base offset bytes ≡ cells_from at bytes
straight base offset at [] follow = refl
straight base offset at (byte ∷ bytes) follow =
    let first : address_of base offset ≡ at = ap (address_of base) (let is : offset ≡ offset + 0 = omega arith in is) ∙ follow 0 (omega arith) ∙
    (let is : at + 0 ≡ at = omega arith in is) in
    let later = straight base (offset + 1) (at + 1) bytes (λ k lt.
    ap (address_of base) (let is : offset + 1 + k ≡ offset + suc k = omega arith in is) ∙ follow (suc k) (omega arith) ∙
    (let is : at + suc k ≡ at + 1 + k = omega arith in is)) in
    λ i. record { at = first i; byte = byte } ∷ later i

pub data_cells-append : (base : Base) (offset : ℕ) (xs ys : List ℕ) → data_cells base offset (xs ++ ys) ≡ data_cells base offset xs ++ data_cells base
    (offset + length xs) ys
data_cells-append base offset [] ys = ap (λ (n : ℕ). data_cells base n ys) (let is : offset ≡ offset + 0 = omega arith in is)
data_cells-append base offset (x ∷ xs) ys =
    ap (λ (cells : List Cell). record { at = address_of base offset; byte = x } ∷ cells)
    (data_cells-append base (offset + 1) xs ys ∙ ap (λ (n : ℕ). data_cells base (offset + 1) xs ++ data_cells base n ys)
    (let is : offset + 1 + length xs ≡ offset + suc (length xs) = omega arith in is))

-- cells that share no address with some others clash as if those weren't there
first_clash-apart : (others before : List Cell) (at : ℕ) (bytes : List ℕ) → ((a : ℕ) → at ≤ a → a < at + length bytes → held others a ≡ None) →
    first_clash (others ++ before) (cells_from at bytes) ≡ first_clash before (cells_from at bytes)
first_clash-apart others before at [] apart = refl
first_clash-apart others before at (byte ∷ bytes) apart =
    ap (λ (o : Option ℕ). clash_with o (record { at = at; byte = byte }) (first_clash (others ++ before) (cells_from (at + 1) bytes)))
    (held-append others before at ∙ ap (λ (o : Option ℕ). or_else o (held before at)) (apart at (omega arith) (omega arith)))
    ∙ ap (clash_with (held before at) (record { at = at; byte = byte }))
    (first_clash-apart others before (at + 1) bytes (λ a from to. apart a (omega arith) (omega arith)))

-- two pieces that share no address, one after the other
pub two_clash : (at at' : ℕ) (xs ys : List ℕ) (before : List Cell) → at' + length ys ≤ at → first_clash before (cells_from at xs) ≡ None →
    first_clash before (cells_from at xs ++ cells_from at' ys) ≡ first_clash (cells_from at xs ++ before) (cells_from at' ys)
two_clash at at' xs ys before apart none =
    first_clash-append before (cells_from at xs) (cells_from at' ys) none
    ∙ sym (first_clash-apart (cells_from at xs) before at' ys (λ a from to. held-none_below at xs a (omega arith)))

swapped : (o p q : Option ℕ) → (o ≡ None) → or_else p (or_else o q) ≡ or_else o (or_else p q)
swapped o p q none = ap (λ (x : Option ℕ). or_else p (or_else x q)) none ∙ sym (ap (λ (x : Option ℕ). or_else x (or_else p q)) none)

swapped' : (o p q : Option ℕ) → (p ≡ None) → or_else p (or_else o q) ≡ or_else o (or_else p q)
swapped' o p q none = ap (λ (x : Option ℕ). or_else x (or_else o q)) none ∙ sym (ap (λ (x : Option ℕ). or_else o (or_else x q)) none)

held-three : (xs ys zs : List Cell) (a : ℕ) → held (xs ++ (ys ++ zs)) a ≡ or_else (held xs a) (or_else (held ys a) (held zs a))
held-three xs ys zs a = held-append xs (ys ++ zs) a ∙ ap (or_else (held xs a)) (held-append ys zs a)

pub two_image : (at at' : ℕ) (xs ys : List ℕ) (before : List Cell) (image : List Run) → at' + length ys ≤ at →
    IsImageOf (cells_from at' ys ++ (cells_from at xs ++ before)) image → IsImageOf ((cells_from at xs ++ cells_from at' ys) ++ before) image
two_image at at' xs ys before image apart is =
    record {
      maximal = is.maximal;
      same = λ a. is.same a
          ∙ held-three (cells_from at' ys) (cells_from at xs) before a
          ∙ ⊎_elim
          (λ (below : a < at). swapped (held (cells_from at xs) a) (held (cells_from at' ys) a) (held before a) (held-none_below at xs a below))
          (λ (from : at ≤ a). swapped' (held (cells_from at xs) a) (held (cells_from at' ys) a) (held before a) (held-none_above at' ys a (omega arith)))
          (cases_lt a at)
          ∙ sym (held-three (cells_from at xs) (cells_from at' ys) before a)
          ∙ ap (λ (cells : List Cell). held cells a) (sym (append_assoc (cells_from at xs) (cells_from at' ys) before));
    }

length-front : (count : ℕ) (bytes xs : List ℕ) → xs ≡ take count bytes → length xs ≡ min count (length bytes)
length-front count bytes xs is = ap length is ∙ length-take count bytes

-- the cells of a data record: those up to the address at which it wraps, and those after it
pub two_pieces : (base : Base) (offset first room low : ℕ) (bytes : List ℕ) (count : ℕ) (xs ys : List ℕ) →
    ((k : ℕ) → k < room → address_of base (offset + k) ≡ first + k) → ((k : ℕ) → k < 256 → address_of base (offset + (room + k)) ≡ low + k)
    → length bytes ≤ 255 → count ≡ min room (length bytes) → xs ≡ take count bytes → ys ≡ drop count bytes →
    data_cells base offset bytes ≡ cells_from first xs ++ cells_from low ys
two_pieces base offset first room low bytes count xs ys straight_is wrapped_is few count_is xs_is ys_is =
    let front = length-front count bytes xs xs_is in
    let back : length ys ≡ length bytes - count = ap length ys_is ∙ length-drop count bytes in
    let whole : bytes ≡ xs ++ ys = sym (take-append-drop count bytes) ∙ ap (λ (zs : List ℕ). zs ++ drop count bytes) (sym xs_is) ∙
    ap (λ (zs : List ℕ). xs ++ zs) (sym ys_is) in
    ap (data_cells base offset) whole
    ∙ data_cells-append base offset xs ys
    ∙ ap (λ (cells : List Cell). cells ++ data_cells base (offset + length xs) ys)
    (straight base offset first xs (λ k lt. straight_is k (omega (arith, front))))
    ∙ ap (λ (cells : List Cell). cells_from first xs ++ cells) (straight base (offset + length xs) low ys (λ k lt.
    ap (address_of base) (let is : offset + length xs + k ≡ offset + (room + k) = omega (arith, front, back) in is) ∙ wrapped_is k (omega (arith, back))))

-- both pieces were added
pub both_ok : (r : Result (Unit {0}) ClashFault) (cells : List Cell) (at at' : ℕ) (xs ys : List ℕ) (old mid new : List Run) → at' + length ys ≤ at →
    cells ≡ cells_from at xs ++ cells_from at' ys
    → ((before : List Cell) → IsImageOf before old → (first_clash before (cells_from at xs) ≡ None) × IsImageOf (cells_from at xs ++ before) mid)
    → OnOk r ((before : List Cell) → IsImageOf before mid → (first_clash before (cells_from at' ys) ≡ None) × IsImageOf (cells_from at' ys ++ before) new)
    → OnOk r ((before : List Cell) → IsImageOf before old → (first_clash before cells ≡ None) × IsImageOf (cells ++ before) new)
both_ok (Ok u) cells at at' xs ys old mid new apart is one two = λ before image.
    let first = one before image in
    let second = two (cells_from at xs ++ before) first.1 in (
      ap (first_clash before) is ∙ two_clash at at' xs ys before apart first.0 ∙ second.0,
      subst (λ (cs : List Cell). IsImageOf (cs ++ before) new) (sym is)
          (two_image at at' xs ys before new apart second.1),
    )
both_ok (Err fault) cells at at' xs ys old mid new apart is one two = tt

pub clash_same : (fault : ClashFault) (o p : Option Clash) → ((c : Clash) → o ≡ Some c → p ≡ Some c) → IsClashFault fault o → IsClashFault fault p
clash_same (Conflict a old new) o p same is = same (record { at = a; old = old; new = new }) is
clash_same OutOfMemory o p same is = tt

pub first_err : (fault : ClashFault) (cells : List Cell) (at at' : ℕ) (xs ys : List ℕ) (old : List Run) → cells ≡ cells_from at xs ++ cells_from at' ys
    → ((before : List Cell) → IsImageOf before old → IsClashFault fault (first_clash before (cells_from at xs))) → (before : List Cell) → IsImageOf before old →
    IsClashFault fault (first_clash before cells)
first_err fault cells at at' xs ys old is one before image =
    clash_same fault (first_clash before (cells_from at xs)) (first_clash before cells)
    (λ c there. ap (first_clash before) is ∙ first_clash-some before (cells_from at xs) (cells_from at' ys) c there) (one before image)

pub second_err : (r : Result (Unit {0}) ClashFault) (cells : List Cell) (at at' : ℕ) (xs ys : List ℕ) (old mid : List Run) → at' + length ys ≤ at →
    cells ≡ cells_from at xs ++ cells_from at' ys
    → ((before : List Cell) → IsImageOf before old → (first_clash before (cells_from at xs) ≡ None) × IsImageOf (cells_from at xs ++ before) mid)
    → IfErr r (λ (fault : ClashFault). (before : List Cell) → IsImageOf before mid → IsClashFault fault (first_clash before (cells_from at' ys)))
    → IfErr r (λ (fault : ClashFault). (before : List Cell) → IsImageOf before old → IsClashFault fault (first_clash before cells))
second_err (Ok u) cells at at' xs ys old mid apart is one two = tt
second_err (Err fault) cells at at' xs ys old mid apart is one two = λ before image.
    let first = one before image in
    clash_same fault (first_clash (cells_from at xs ++ before) (cells_from at' ys)) (first_clash before cells)
    (λ c there. ap (first_clash before) is ∙ two_clash at at' xs ys before apart first.0 ∙ there) (two (cells_from at xs ++ before) first.1)
