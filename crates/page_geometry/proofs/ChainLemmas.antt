-- Ranges that follow one another: a partition of the places from the first to the last.
use Rattle.std.proofs.Common.{◌≡◌, ℕ, zero, suc, ◌+◌, ◌-◌, ◌*◌, ◌<◌, ◌≤◌, min, refl, sym, ap, subst, arith, ◌∙◌, List, [], ◌∷◌, ◌++◌, map, length, inl, inr}
use Rattle.std.proofs.Common.{zero-add}
use Rattle.std.proofs.lemmas.Bool.{cases_lt}
use Rattle.std.proofs.lemmas.List.{get_or_append_left, get_or-append_right, length-append, get_or_past}
use Rattle.std.specs.List.{range_with_len}
use Rattle.flm_descriptor.specs.Shape.{Range, range, pieces, piece, cut, pages_of, range_at}
use Rattle.flm_descriptor.proofs.CutLemmas.{pieces_below, pieces_above, length-cut, cut_at}
use Rattle.page_geometry.specs.Geometry.{In, Within, IsPartition}

-- the ranges follow one another from `a` to `b`, and none is empty
unfoldable pub Chains : ℕ → List Range → ℕ → Type 0
Chains a [] b = a ≡ b
Chains a (r ∷ rs) b = (r.start ≡ a) × (r.start < r.stop) × Chains r.stop rs b

pub chains_append : (a b c : ℕ) (xs ys : List Range) → Chains a xs b → Chains b ys c → Chains a (xs ++ ys) c
unfolding Chains
chains_append a b c [] ys first second = subst (λ (n : ℕ). Chains n ys c) (sym first) second
chains_append a b c (r ∷ xs) ys first second = (first.0, first.1, chains_append r.stop b c xs ys first.2 second)

pub chains_le : (a b : ℕ) (rs : List Range) → Chains a rs b → a ≤ b
unfolding Chains
chains_le a b [] h = omega (arith, h)
chains_le a b (r ∷ rs) h = let rest = chains_le r.stop b rs h.2 in omega (arith, h.0, h.1, rest)

pub chains_at : (a b : ℕ) (rs : List Range) (k : ℕ) → Chains a rs b → k < length rs → (a ≤ (range_at rs k).start) ×
    ((range_at rs k).start < (range_at rs k).stop) × ((range_at rs k).stop ≤ b)
unfolding Chains
chains_at a b [] k h l = absurd (omega (arith, l))
chains_at a b (r ∷ rs) zero h l = (omega (arith, h.0), h.1, chains_le r.stop b rs h.2)
chains_at a b (r ∷ rs) (suc k) h l =
    let rest = chains_at r.stop b rs k h.2 (omega (arith, l)) in (omega (arith, h.0, h.1, rest.0), rest.1, rest.2)

in_range_of_list : (rs : List Range) (k i : ℕ) → In i (range_at rs k) → k < length rs
in_range_of_list rs k i h =
    elim (cases_lt k (length rs)) [
      | inl l ↦ l
      | inr past ↦ (let e = get_or_past rs k (range 0 0) past in absurd (omega (arith, subst (λ (r : Range). i < r.stop) e h.1)))
    ]

chains_cover : (a b i : ℕ) (rs : List Range) → Chains a rs b → a ≤ i → i < b → (k : ℕ) × (k < length rs) × In i (range_at rs k)
unfolding Chains
chains_cover a b i [] h from under = absurd (omega (arith, h, from, under))
chains_cover a b i (r ∷ rs) h from under =
    elim (cases_lt i r.stop) [
      | inl here ↦ (0, omega arith, (omega (arith, h.0, from), here))
      | inr there ↦ (let x = chains_cover r.stop b i rs h.2 there under in (suc x.0, omega (arith, x.1), x.2))
    ]

chains_apart : (a b : ℕ) (rs : List Range) → Chains a rs b → (j k i : ℕ) → In i (range_at rs j) → In i (range_at rs k) → j ≡ k
unfolding Chains
chains_apart a b [] h j k i hj hk = absurd (omega (arith, hj.1))
chains_apart a b (r ∷ rs) h zero zero i hj hk = refl
chains_apart a b (r ∷ rs) h zero (suc k) i hj hk =
    absurd (omega (arith, hj.1, (chains_at r.stop b rs k h.2 (in_range_of_list rs k i hk)).0, hk.0))
chains_apart a b (r ∷ rs) h (suc j) zero i hj hk =
    absurd (omega (arith, hk.1, (chains_at r.stop b rs j h.2 (in_range_of_list rs j i hj)).0, hj.0))
chains_apart a b (r ∷ rs) h (suc j) (suc k) i hj hk = ap (λ (n : ℕ). suc n) (chains_apart r.stop b rs h.2 j k i hj hk)

pub partition : (size : ℕ) (rs : List Range) → Chains 0 rs size → IsPartition size rs
partition size rs h = record {
  below = λ k l. (chains_at 0 size rs k h l).2;
  some = λ k l. (chains_at 0 size rs k h l).1;
  cover = λ i l. chains_cover 0 size i rs h (omega arith) l;
  apart = chains_apart 0 size rs h;
}

cut_from : (step start stop : ℕ) → 1 ≤ step → (n k : ℕ) → k + n ≡ pieces step start stop →
    Chains (min (start + k * step) stop) (map (piece step start stop) (range_with_len k n)) stop
unfolding Chains
cut_from step start stop some zero k e =
    elim (cases_lt (start + k * step) stop) [
      | inl l ↦ (let more = pieces_above step start stop k some l in absurd (omega (arith, more, e)))
      | inr g ↦ omega (arith, g)
    ]
cut_from step start stop some (suc n) k e =
    let below = pieces_below step start stop k some (omega (arith, e)) in
    (omega (arith, below), omega (arith, below, some), cut_from step start stop some n (k + 1) (omega (arith, e)))

pub cut_chains : (step start stop : ℕ) → 1 ≤ step → Chains (min start stop) (cut step start stop) stop
unfolding cut
cut_chains step start stop some =
    let e : min (start + 0 * step) stop ≡ min start stop = omega arith in
    subst (λ (n : ℕ). Chains n (map (piece step start stop) (range_with_len 0 (pieces step start stop))) stop) e
    (cut_from step start stop some (pieces step start stop) 0 (zero-add (pieces step start stop)))

pub pages_chain : (page a b : ℕ) (ss : List Range) → 1 ≤ page → Chains a ss b → Chains a (pages_of page ss) b
unfolding Chains pages_of
pages_chain page a b [] some h = h
pages_chain page a b (r ∷ ss) some h =
    let e : min r.start r.stop ≡ a = omega (arith, h.0, h.1) in
    chains_append a r.stop b (cut page r.start r.stop) (pages_of page ss)
    (subst (λ (n : ℕ). Chains n (cut page r.start r.stop) r.stop) e (cut_chains page r.start r.stop some))
    (pages_chain page r.stop b ss some h.2)

pub pages_nested : (page : ℕ) (ss : List Range) → 1 ≤ page → (p : ℕ) → p < length (pages_of page ss) → (s : ℕ) ×
    (s < length ss) × Within (range_at (pages_of page ss) p) (range_at ss s)
unfolding pages_of
pages_nested page [] some p h = absurd (omega (arith, h))
pages_nested page (r ∷ ss) some p h =
    let n : ℕ = pieces page r.start r.stop in
    let long : length (cut page r.start r.stop) ≡ n = length-cut page r.start r.stop in
    let all = length-append (cut page r.start r.stop) (pages_of page ss) in
    elim (cases_lt p n) [
      | inl here ↦
          (let e = get_or_append_left (cut page r.start r.stop) (pages_of page ss) (range 0 0) p (omega (arith, here, long)) ∙
          cut_at page r.start r.stop p here in
          (0, omega arith, subst (λ (x : Range). Within x r) (sym e) (omega arith, omega arith)))
      | inr there ↦
          (let x = pages_nested page ss some (p - n) (omega (arith, h, all, long, there)) in
          let e = get_or-append_right (cut page r.start r.stop) (pages_of page ss) n p (range 0 0) long there in
          (suc x.0, omega (arith, x.1), subst (λ (y : Range). Within y (range_at ss x.0)) (sym e) x.2))
    ]
