-- The marks of bytes are right for what is loaded, and after a store.
use Rattle.std.proofs.Common.{◌≡◌, ◌≢◌, ◌<◌, ◌≤◌, ◌+◌, ◌*◌, ◌/◌, ◌%◌, ◌^◌, ◌&&◌, ℕ, Bool, true, false, nat_eq, nat_lt, if◌then◌else◌, List, length}
use Rattle.std.proofs.Common.{slice_index, slice_set}
use Rattle.std.proofs.Common.{get_or, refl, sym, ap, ap₂, subst, ◌∙◌, ⊎_elim, arith, length-set, get_or-set_same, get_or-set_other, eqb-true}
use Rattle.std.proofs.lemmas.Bool.{and_parts, cases_eq, cases_lt}
use Rattle.std.proofs.lemmas.List.{set_past}
use Rattle.armv6m_step.specs.Ram.{value_at, bytes_with}
use Rattle.shadow_step.specs.declared.marks.Mark.{Mark}
use Rattle.shadow_step.specs.declared.marks.Mark.TheVariants.{Known, Page, Any}
use Rattle.shadow_step.specs.Marks.{Pages, ArePages, Says, is_known}
use Rattle.shadow_step.specs.Bytes.{BytesAgree, next_to, joined, byte_mark, half_mark, word_mark, number_mark, part_of, marks_with}
use Rattle.shadow_step.proofs.MarkLemmas.{known_same}

-- bytes of a page that follow each other are one number: two bytes, or two halfwords

pairs : (bytes : List ℕ) (x : ℕ) → value_at bytes 1 x + 0x100 * value_at bytes 1 (x + 1) ≡ value_at bytes 2 x
pairs bytes x = refl

words : (bytes : List ℕ) (x : ℕ) → value_at bytes 2 x + 0x10000 * value_at bytes 2 (x + 2) ≡ value_at bytes 4 x
words bytes x =
    let e : x + 2 + 1 ≡ x + 3 = omega arith in
    let f : slice_index bytes (x + 2 + 1) ≡ slice_index bytes (x + 3) = ap (slice_index bytes) e in
    omega (arith, f)

-- two numbers of a page that follow each other make one number, where the second has the weight `by`
abbrev Folds : ℕ → ℕ → Type 0
Folds by width = (bytes : List ℕ) (x : ℕ) → value_at bytes width x + by * value_at bytes width (x + width) ≡ value_at bytes (width + width) x

joined_by : (p : Pages) (by width : ℕ) (a b : Mark) (v u v' u' : ℕ) → Folds by width → Says p a v v' → Says p b u u' →
    (k : Bool) → (is_known a && is_known b) ≡ k → Says p (if k then Known else next_to width a b) (v + by * u) (v' + by * u')
joined_by p by width a b v u v' u' folds says next true e =
    let parts : (is_known a ≡ true) × (is_known b ≡ true) = and_parts _ _ e in
    ap₂ (λ (x y : ℕ). x + by * y) (known_same p a v v' says parts.0) (known_same p b u u' next parts.1)
joined_by p by width (Page w x) (Page z y) v u v' u' folds says next false e =
    elim (nat_eq w width && (nat_eq z width && nat_eq y (x + width))) as (λ hit. (nat_eq w width && (nat_eq z width && nat_eq y (x + width))) ≡ hit
    → Says p (if hit then Page (width + width) x else Any) (v + by * u) (v' + by * u')) [
      | true ↦ λ hit.
          let one : (nat_eq w width ≡ true) × ((nat_eq z width && nat_eq y (x + width)) ≡ true) = and_parts _ _ hit in
          let two : (nat_eq z width ≡ true) × (nat_eq y (x + width) ≡ true) = and_parts _ _ one.1 in
          let w_is : w ≡ width = eqb-true _ _ one.0 in
          let z_is : z ≡ width = eqb-true _ _ two.0 in
          let y_is : y ≡ x + width = eqb-true _ _ two.1 in
          let fold : (bytes : List ℕ) (q r : ℕ) → q ≡ value_at bytes w x → r ≡ value_at bytes z y → q + by * r ≡ value_at bytes (width + width) x =
          λ bytes q r l m. rw (l, m, w_is, z_is, y_is) (folds bytes x) in
          (fold p.here v u says.0 next.0, fold p.there v' u' says.1 next.1)
      | false ↦ λ hit. tt
    ] refl
joined_by p by width a b v u v' u' folds says next false e = tt

joined_says : (p : Pages) (by width : ℕ) (a b : Mark) (v u v' u' : ℕ) → Folds by width → Says p a v v' → Says p b u u' →
    Says p (joined width a b) (v + by * u) (v' + by * u')
joined_says p by width a b v u v' u' folds says next = joined_by p by width a b v u v' u' folds says next (is_known a && is_known b) refl

module _ (p : Pages) (ms : List Mark) (bytes bytes' : List ℕ) (agree : BytesAgree p ms bytes bytes') where
  half_says : (i : ℕ) → Says p (half_mark ms i) (value_at bytes 2 i) (value_at bytes' 2 i)
  half_says i = joined_says p 0x100 1 (byte_mark ms i) (byte_mark ms (i + 1)) (slice_index bytes i) (slice_index bytes (i + 1)) (slice_index bytes' i)
      (slice_index bytes' (i + 1)) pairs (agree.says i) (agree.says (i + 1))

  word_says : (i : ℕ) → Says p (word_mark ms i) (value_at bytes 4 i) (value_at bytes' 4 i)
  word_says i =
      let both : Says p (word_mark ms i) (value_at bytes 2 i + 0x10000 * value_at bytes 2 (i + 2)) (value_at bytes' 2 i + 0x10000 * value_at bytes' 2 (i + 2)) =
      joined_says p 0x10000 2 (half_mark ms i) (half_mark ms (i + 2)) _ _ _ _ words (half_says i) (half_says (i + 2)) in
      subst (λ (n : ℕ). Says p (word_mark ms i) n (value_at bytes' 4 i)) (words bytes i)
      (subst (λ (n : ℕ). Says p (word_mark ms i) (value_at bytes 2 i + 0x10000 * value_at bytes 2 (i + 2)) n) (words bytes' i) both)

  number_by : (one two : Bool) (i : ℕ) → Says p (if one then byte_mark ms i else if two then half_mark ms i else word_mark ms i)
      (if one then slice_index bytes i else if two then value_at bytes 2 i else value_at bytes 4 i)
      (if one then slice_index bytes' i else if two then value_at bytes' 2 i else value_at bytes' 4 i)
  number_by true two i = agree.says i
  number_by false true i = half_says i
  number_by false false i = word_says i

  -- the mark of a loaded number is right
  pub number_says : (width i : ℕ) → Says p (number_mark ms width i) (value_at bytes width i) (value_at bytes' width i)
  number_says width i = number_by (nat_eq width 1) (nat_eq width 2) i

-- the marks stay right after one byte is stored
set_agrees : (p : Pages) (ms : List Mark) (bytes bytes' : List ℕ) (i : ℕ) (k : Mark) (v v' : ℕ) → BytesAgree p ms bytes bytes' → Says p k v v' →
    BytesAgree p (slice_set ms i k) (slice_set bytes i v) (slice_set bytes' i v')
set_agrees p ms bytes bytes' i k v v' agree says = record {
  here = length-set bytes i v ∙ agree.here ∙ sym (length-set ms i k);
  there = length-set bytes' i v' ∙ agree.there ∙ sym (length-set ms i k);
  says = λ j. ⊎_elim
      (λ (within : i < length ms). ⊎_elim
      (λ (hit : j ≡ i).
      let a : get_or (slice_set ms i k) i Any ≡ k = get_or-set_same ms i k Any within in
      let b : slice_index (slice_set bytes i v) i ≡ v = get_or-set_same bytes i v 0 (omega (arith, within, agree.here)) in
      let c : slice_index (slice_set bytes' i v') i ≡ v' = get_or-set_same bytes' i v' 0 (omega (arith, within, agree.there)) in
      rw hit (rw (a, b, c) says))
      (λ (other : j ≢ i).
      let a : get_or (slice_set ms i k) j Any ≡ get_or ms j Any = get_or-set_other ms i j k Any other in
      let b : slice_index (slice_set bytes i v) j ≡ slice_index bytes j = get_or-set_other bytes i j v 0 other in
      let c : slice_index (slice_set bytes' i v') j ≡ slice_index bytes' j = get_or-set_other bytes' i j v' 0 other in
      rw (a, b, c) (agree.says j))
      (cases_eq j i))
      (λ (past : length ms ≤ i).
      let a : slice_set ms i k ≡ ms = set_past ms i k past in
      let b : slice_set bytes i v ≡ bytes = set_past bytes i v (omega (arith, past, agree.here)) in
      let c : slice_set bytes' i v' ≡ bytes' = set_past bytes' i v' (omega (arith, past, agree.there)) in
      rw (a, b, c) (agree.says j))
      (cases_lt i (length ms));
}

-- the bytes of a stored number

pub half_parts : (bytes : List ℕ) (x v : ℕ) → ((k : ℕ) → slice_index bytes k < 2 ^ 8) → v ≡ value_at bytes 2 x →
    (v % 0x100 ≡ slice_index bytes (x + 0)) × (v / 0x100 ≡ slice_index bytes (x + 1))
half_parts bytes x v small is =
    let a : slice_index bytes x < 2 ^ 8 = small x in
    let b : slice_index bytes (x + 1) < 2 ^ 8 = small (x + 1) in
    let e : slice_index bytes (x + 0) ≡ slice_index bytes x = ap (slice_index bytes) (omega arith) in
    (omega (arith, is, e), omega (arith, is))

pub record WordParts (bytes : List ℕ) (x v : ℕ) : Type 0 where
  pub first : v % 0x100 ≡ slice_index bytes (x + 0)
  pub second : v / 0x100 % 0x100 ≡ slice_index bytes (x + 1)
  pub third : v / 0x10000 % 0x100 ≡ slice_index bytes (x + 2)
  pub fourth : v / 0x1000000 ≡ slice_index bytes (x + 3)

pub word_parts : (bytes : List ℕ) (x v : ℕ) → ((k : ℕ) → slice_index bytes k < 2 ^ 8) → v ≡ value_at bytes 4 x → WordParts bytes x v
word_parts bytes x v small is =
    let a : slice_index bytes x < 2 ^ 8 = small x in
    let b : slice_index bytes (x + 1) < 2 ^ 8 = small (x + 1) in
    let c : slice_index bytes (x + 2) < 2 ^ 8 = small (x + 2) in
    let d : slice_index bytes (x + 3) < 2 ^ 8 = small (x + 3) in
    let e : slice_index bytes (x + 0) ≡ slice_index bytes x = ap (slice_index bytes) (omega arith) in
    record { first = omega (arith, is, e); second = omega (arith, is); third = omega (arith, is); fourth = omega (arith, is) }

part_by : (p : Pages) (width w j x q q' : ℕ) (same : Bool) → (nat_eq w width && nat_lt (x + j) 0x100000000) ≡ same
    → (w ≡ width → (q ≡ slice_index p.here (x + j)) × (q' ≡ slice_index p.there (x + j)))
    → Says p (if same then Page 1 (x + j) else Any) q q'
part_by p width w j x q q' true e is =
    let parts : (nat_eq w width ≡ true) × (nat_lt (x + j) 0x100000000 ≡ true) = and_parts _ _ e in is (eqb-true _ _ parts.0)
part_by p width w j x q q' false e is = tt

-- a mark of a number gives the mark of each byte of it, where the byte is a function of the number
pub part_says : (p : Pages) (width j : ℕ) (k : Mark) (v v' : ℕ) (f : ℕ → ℕ) → Says p k v v'
    → ((x : ℕ) → v ≡ value_at p.here width x → f v ≡ slice_index p.here (x + j))
    → ((x : ℕ) → v' ≡ value_at p.there width x → f v' ≡ slice_index p.there (x + j))
    → Says p (part_of width j k) (f v) (f v')
part_says p width j Known v v' f says here there = ap f says
part_says p width j (Page w x) v v' f says here there = part_by p width w j x (f v) (f v') (nat_eq w width && nat_lt (x + j) 0x100000000) refl
    (λ same. (here x (says.0 ∙ ap (λ (n : ℕ). value_at p.here n x) same), there x (says.1 ∙ ap (λ (n : ℕ). value_at p.there n x) same)))
part_says p width j Any v v' f says here there = tt

with_by : (p : Pages) → ArePages p → (ms : List Mark) (bytes bytes' : List ℕ) (i : ℕ) (k : Mark) (v v' : ℕ) → BytesAgree p ms bytes bytes' →
    Says p k v v' → (one two : Bool) →
    BytesAgree p
    (if one then slice_set ms i k else
    if two then slice_set (slice_set ms i (part_of 2 0 k)) (i + 1) (part_of 2 1 k) else
    slice_set (slice_set (slice_set (slice_set ms i (part_of 4 0 k)) (i + 1) (part_of 4 1 k)) (i + 2) (part_of 4 2 k)) (i + 3) (part_of 4 3 k))
    (if one then slice_set bytes i v else
    if two then slice_set (slice_set bytes i (v % 0x100)) (i + 1) (v / 0x100) else
    slice_set (slice_set (slice_set (slice_set bytes i (v % 0x100)) (i + 1) (v / 0x100 % 0x100)) (i + 2) (v / 0x10000 % 0x100)) (i + 3) (v / 0x1000000))
    (if one then slice_set bytes' i v' else
    if two then slice_set (slice_set bytes' i (v' % 0x100)) (i + 1) (v' / 0x100) else
    slice_set (slice_set (slice_set (slice_set bytes' i (v' % 0x100)) (i + 1) (v' / 0x100 % 0x100)) (i + 2) (v' / 0x10000 % 0x100)) (i + 3) (v' / 0x1000000))
with_by p are ms bytes bytes' i k v v' agree says true two = set_agrees p ms bytes bytes' i k v v' agree says
with_by p are ms bytes bytes' i k v v' agree says false true =
    set_agrees p _ _ _ (i + 1) _ _ _
    (set_agrees p ms bytes bytes' i _ _ _ agree
    (part_says p 2 0 k v v' (λ n. n % 0x100) says (λ x is. (half_parts p.here x v are.here is).0) (λ x is. (half_parts p.there x v' are.there is).0)))
    (part_says p 2 1 k v v' (λ n. n / 0x100) says (λ x is. (half_parts p.here x v are.here is).1) (λ x is. (half_parts p.there x v' are.there is).1))
with_by p are ms bytes bytes' i k v v' agree says false false =
    set_agrees p _ _ _ (i + 3) _ _ _
    (set_agrees p _ _ _ (i + 2) _ _ _
    (set_agrees p _ _ _ (i + 1) _ _ _
    (set_agrees p ms bytes bytes' i _ _ _ agree
    (part_says p 4 0 k v v' (λ n. n % 0x100) says (λ x is. (word_parts p.here x v are.here is).first) (λ x is. (word_parts p.there x v' are.there is).first)))
    (part_says p 4 1 k v v' (λ n. n / 0x100 % 0x100) says (λ x is. (word_parts p.here x v are.here is).second)
    (λ x is. (word_parts p.there x v' are.there is).second)))
    (part_says p 4 2 k v v' (λ n. n / 0x10000 % 0x100) says (λ x is. (word_parts p.here x v are.here is).third)
    (λ x is. (word_parts p.there x v' are.there is).third)))
    (part_says p 4 3 k v v' (λ n. n / 0x1000000) says (λ x is. (word_parts p.here x v are.here is).fourth)
    (λ x is. (word_parts p.there x v' are.there is).fourth))

-- the marks are right after a store
pub with_agrees : (p : Pages) → ArePages p → (ms : List Mark) (bytes bytes' : List ℕ) (width i : ℕ) (k : Mark) (v v' : ℕ) → BytesAgree p ms bytes bytes' →
    Says p k v v' →
    BytesAgree p (marks_with ms width i k) (bytes_with bytes width i v) (bytes_with bytes' width i v')
with_agrees p are ms bytes bytes' width i k v v' agree says = with_by p are ms bytes bytes' i k v v' agree says (nat_eq width 1) (nat_eq width 2)
