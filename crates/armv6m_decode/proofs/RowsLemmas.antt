-- Rows that can't fit any halfword of a range are left out of a scan, and no halfword fits two rows that differ on a bit of both masks.
use Rattle.std.proofs.Common.{◌≡◌, ℕ, zero, suc, ◌+◌, ◌^◌, ◌<◌, ◌≤◌, Bool, true, false, cond, not, ◌&&◌, ◌||◌, eqb, ltb, List, [], ◌∷◌, Option, Some, slice_get}
use Rattle.std.proofs.Common.{bit_and, bit_or, refl, sym, ap, ◌∙◌, arith, ltb-true, eqb-true}
use Rattle.std.proofs.lemmas.Bool.Decides.{nat_tests}
use Rattle.std.proofs.lemmas.Nat.{and_assoc}
use Rattle.std.specs.Int.Bits.{and_comm, or_add_and, or_lt, and_le_l}
use Rattle.armv6m_decode.specs.declared.instr.Instr.{Instr}
use Rattle.armv6m_decode.specs.Rows.{Row, fits, first_fit, AtMostOneFits, PairRow, fits_pair, AtMostOneFitsPair}

-- a halfword that fits a row is at least the row's value, and at most that value with all other bits set
pub fits_range : (half mask value : ℕ) → half < 2 ^ 16 → mask < 2 ^ 16 → bit_and half mask ≡ value → (value ≤ half) × (half + mask ≤ value + 65535)
fits_range half mask value h m e =
    let a : bit_and half mask ≤ half = and_le_l half mask in
    let b : bit_or half mask + bit_and half mask ≡ half + mask = or_add_and half mask in
    let c : bit_or half mask < 2 ^ 16 = or_lt 16 half mask h m in
    (omega arith, omega arith)

-- whether a row fits no halfword of a range
abbrev pub outside : ℕ → ℕ → Row → Bool
outside low high r = ltb high r.value || ltb (r.value + 65535) (low + r.mask)

-- the rows that may fit a halfword of a range
abbrev pub near : ℕ → ℕ → List Row → List Row
near low high [] = []
near low high (r ∷ rs) = cond (outside low high r) (near low high rs) (r ∷ near low high rs)

-- each mask has at most 16 bits
abbrev pub masks_fit : List Row → Bool
masks_fit [] = true
masks_fit (r ∷ rs) = ltb r.mask 65536 && masks_fit rs

both : (a b : Bool) → (a && b) ≡ true → (a ≡ true) × (b ≡ true)
both true b e = (refl, e)
both false b e = cc

either_true : (a b : Bool) → (a || b) ≡ true → (a ≡ true → ⊥) → b ≡ true
either_true true b e n = absurd (n refl)
either_true false b e n = e

not_true : (b : Bool) → (b ≡ true → ⊥) → b ≡ false
not_true true n = absurd (n refl)
not_true false n = refl

-- a row that is outside a range fits no halfword of it
outside_unfit : (low high half value mask : ℕ) → low ≤ half → half ≤ high → half < 2 ^ 16 → mask < 2 ^ 16 →
    (ltb high value || ltb (value + 65535) (low + mask)) ≡ true → eqb (bit_and half mask) value ≡ true → ⊥
outside_unfit low high half value mask l h w m out fit =
    let r : (value ≤ half) × (half + mask ≤ value + 65535) = fits_range half mask value w m (eqb-true _ _ fit) in
    let above : value + 65535 < low + mask = ltb-true _ _ (either_true _ _ out (λ e. let x : high < value = ltb-true _ _ e in omega arith)) in
    omega arith

-- in the range, the first row that fits is the first of the rows near it
pub narrow : (low high : ℕ) (rs : List Row) (half : ℕ) → masks_fit rs ≡ true → half < 2 ^ 16 → low ≤ half → half ≤ high →
    first_fit rs half ≡ first_fit (near low high rs) half
narrow low high [] half m w l h = refl
narrow low high (r ∷ rs) half m w l h =
    let masks = both (ltb r.mask 65536) (masks_fit rs) m in
    let rest : first_fit rs half ≡ first_fit (near low high rs) half = narrow low high rs half masks.1 w l h in
    let out : outside low high r ≡ true → first_fit (r ∷ rs) half ≡ first_fit (near low high rs) half = λ e.
    ap (λ (b : Bool). cond b (Some (r.form half)) (first_fit rs half))
    (not_true (fits r half) (outside_unfit low high half r.value r.mask l h w (ltb-true _ _ masks.0) e)) ∙ rest in
    let step : (b : Bool) → (b ≡ true → first_fit (r ∷ rs) half ≡ first_fit (near low high rs) half) →
    first_fit (r ∷ rs) half ≡ first_fit (cond b (near low high rs) (r ∷ near low high rs)) half = λ b.
    elim b as (λ (b : Bool). (b ≡ true → first_fit (r ∷ rs) half ≡ first_fit (near low high rs) half) →
    first_fit (r ∷ rs) half ≡ first_fit (cond b (near low high rs) (r ∷ near low high rs)) half) [
      | true ↦ λ t. t refl
      | false ↦ λ _. ap (λ (x : Option Instr). cond (fits r half) (Some (r.form half)) x) rest
    ] in
    step (outside low high r) out

-- ---- no two rows fit one halfword

-- whether the values of two rows differ on a bit of both masks
abbrev pub apart : Row → Row → Bool
apart r s = not (eqb (bit_and r.value s.mask) (bit_and s.value r.mask))

-- whether a row is apart from each row of a list
abbrev pub apart_from : Row → List Row → Bool
apart_from r [] = true
apart_from r (s ∷ ss) = apart r s && apart_from r ss

-- whether any two rows of a list are apart
abbrev pub all_apart : List Row → Bool
all_apart [] = true
all_apart (r ∷ rs) = apart_from r rs && all_apart rs

-- two rows that fit one halfword agree on the bits of both masks
same_shared : (half v m w n : ℕ) → bit_and half m ≡ v → bit_and half n ≡ w → bit_and v n ≡ bit_and w m
same_shared half v m w n p q =
    ap (λ (x : ℕ). bit_and x n) (sym p) ∙ and_assoc n half m ∙ ap (λ (x : ℕ). bit_and half x) (and_comm m n) ∙ sym (and_assoc m half n) ∙
    ap (λ (x : ℕ). bit_and x m) q

not_both : (r s : Row) (half : ℕ) → apart r s ≡ true → fits r half ≡ true → fits s half ≡ true → ⊥
not_both r s half a f g =
    let e : bit_and r.value s.mask ≡ bit_and s.value r.mask = same_shared half r.value r.mask s.value s.mask (eqb-true _ _ f) (eqb-true _ _ g) in
    grind (arith, nat_tests)

-- a row that is apart from each of a list fits no halfword with one of them
first_only : (r : Row) (rs : List Row) (half : ℕ) → apart_from r rs ≡ true → (j : ℕ) (s : Row) → slice_get rs j ≡ Some s → fits r half ≡ true →
    fits s half ≡ true → ⊥
first_only r [] half a j s e f g = cc
first_only r (t ∷ ts) half a zero s e f g =
    let same : t ≡ s = cc in
    not_both r t half (both _ _ a).0 f (ap (λ (x : Row). fits x half) same ∙ g)
first_only r (t ∷ ts) half a (suc j) s e f g = first_only r ts half (both _ _ a).1 j s e f g

-- rows that are all apart: at most one fits
pub one_fits : (rs : List Row) → all_apart rs ≡ true → AtMostOneFits rs
one_fits [] a i j half r s e d f g = cc
one_fits (t ∷ ts) a zero zero half r s e d f g = refl
one_fits (t ∷ ts) a zero (suc j) half r s e d f g =
    let same : t ≡ r = cc in
    absurd (first_only t ts half (both _ _ a).0 j s d (ap (λ (x : Row). fits x half) same ∙ f) g)
one_fits (t ∷ ts) a (suc i) zero half r s e d f g =
    let same : t ≡ s = cc in
    absurd (first_only t ts half (both _ _ a).0 i r e (ap (λ (x : Row). fits x half) same ∙ g) f)
one_fits (t ∷ ts) a (suc i) (suc j) half r s e d f g = ap (λ (k : ℕ). suc k) (one_fits ts (both _ _ a).1 i j half r s e d f g)

-- ---- rows of pairs of halfwords

abbrev pub pair_apart : PairRow → PairRow → Bool
pair_apart r s = not (eqb (bit_and r.value s.mask) (bit_and s.value r.mask)) || not
    (eqb (bit_and r.second_value s.second_mask) (bit_and s.second_value r.second_mask))

abbrev pub pair_apart_from : PairRow → List PairRow → Bool
pair_apart_from r [] = true
pair_apart_from r (s ∷ ss) = pair_apart r s && pair_apart_from r ss

abbrev pub all_pairs_apart : List PairRow → Bool
all_pairs_apart [] = true
all_pairs_apart (r ∷ rs) = pair_apart_from r rs && all_pairs_apart rs

not_both_pairs : (r s : PairRow) (first second : ℕ) → pair_apart r s ≡ true → fits_pair r first second ≡ true → fits_pair s first second ≡ true → ⊥
not_both_pairs r s first second a f g =
    let fr = both (eqb (bit_and first r.mask) r.value) _ f in
    let fs = both (eqb (bit_and first s.mask) s.value) _ g in
    let e : bit_and r.value s.mask ≡ bit_and s.value r.mask = same_shared first r.value r.mask s.value s.mask (eqb-true _ _ fr.0) (eqb-true _ _ fs.0) in
    let e2 : bit_and r.second_value s.second_mask ≡ bit_and s.second_value r.second_mask =
    same_shared second r.second_value r.second_mask s.second_value s.second_mask (eqb-true _ _ fr.1) (eqb-true _ _ fs.1) in
    grind (arith, nat_tests)

first_pair_only : (r : PairRow) (rs : List PairRow) (first second : ℕ) → pair_apart_from r rs ≡ true → (j : ℕ) (s : PairRow) → slice_get rs j ≡ Some s →
    fits_pair r first second ≡ true → fits_pair s first second ≡ true → ⊥
first_pair_only r [] first second a j s e f g = cc
first_pair_only r (t ∷ ts) first second a zero s e f g =
    let same : t ≡ s = cc in
    not_both_pairs r t first second (both _ _ a).0 f (ap (λ (x : PairRow). fits_pair x first second) same ∙ g)
first_pair_only r (t ∷ ts) first second a (suc j) s e f g = first_pair_only r ts first second (both _ _ a).1 j s e f g

pub one_pair_fits : (rs : List PairRow) → all_pairs_apart rs ≡ true → AtMostOneFitsPair rs
one_pair_fits [] a i j first second r s e d f g = cc
one_pair_fits (t ∷ ts) a zero zero first second r s e d f g = refl
one_pair_fits (t ∷ ts) a zero (suc j) first second r s e d f g =
    let same : t ≡ r = cc in
    absurd (first_pair_only t ts first second (both _ _ a).0 j s d (ap (λ (x : PairRow). fits_pair x first second) same ∙ f) g)
one_pair_fits (t ∷ ts) a (suc i) zero first second r s e d f g =
    let same : t ≡ s = cc in
    absurd (first_pair_only t ts first second (both _ _ a).0 i r e (ap (λ (x : PairRow). fits_pair x first second) same ∙ g) f)
one_pair_fits (t ∷ ts) a (suc i) (suc j) first second r s e d f g = ap (λ (k : ℕ). suc k) (one_pair_fits ts (both _ _ a).1 i j first second r s e d f g)
