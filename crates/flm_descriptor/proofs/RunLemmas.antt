-- Laws of pieces, of the pages of a run of sectors, and of sectors and pages run by run.
use Rattle.std.proofs.Common.{◌≡◌, ℕ, zero, suc, ◌+◌, ◌-◌, ◌*◌, ◌/◌, ◌%◌, ◌<◌, ◌≤◌, min, refl, sym, ap, subst, arith, ◌∙◌, List, [], ◌∷◌, ◌++◌, map, take, drop}
use Rattle.std.proofs.Common.{length, inl, inr, zero-add, append-nil}
use Rattle.std.proofs.Math.Nat.{add-div_right}
use Rattle.std.proofs.lemmas.Bool.{cases_lt}
use Rattle.std.proofs.lemmas.Nat.{div-mul-add, mod-mul-add}
use Rattle.std.proofs.lemmas.List.{get_or_append_left, get_or-append-add, length-append, append_assoc, take-append-drop, drop_more, take_more, take_all}
use Rattle.std.proofs.lemmas.List.{take-take}
use Rattle.std.specs.List.{range_with_len}
use Rattle.flm_descriptor.specs.declared.geometry.Run.{Run}
use Rattle.flm_descriptor.specs.Shape.{Range, range, pieces, piece, cut, sectors_of, pages_of}
use Rattle.flm_descriptor.proofs.CutLemmas.{pieces_below, pieces_above, length-cut, cut_at}
use Rattle.flm_descriptor.specs.Shape.{range_at}
use Rattle.flm_descriptor.specs.Shape.{run_at, sectors_before, pages_before}

-- ---- pieces as the code counts them

pub pieces_counted : (step start stop : ℕ) → 1 ≤ step → start < stop → (stop - start - 1) / step + 1 ≡ pieces step start stop
unfolding pieces
pieces_counted step start stop some h =
    let e : stop - start - 1 + step ≡ stop - start + (step - 1) = omega (arith, some, h) in
    sym (add-div_right (stop - start - 1) {k = step} some) ∙ ap (λ (n : ℕ). n / step) e

pub pieces_none : (step start stop : ℕ) → 1 ≤ step → stop ≤ start → 0 ≡ pieces step start stop
pieces_none step start stop some h =
    elim (cases_lt 0 (pieces step start stop)) [
      | inl l ↦ (let below = pieces_below step start stop 0 some l in absurd (omega (arith, below, h)))
      | inr g ↦ omega (arith, g)
    ]

pub pieces_some : (step start stop : ℕ) → 1 ≤ step → start < stop → 0 < pieces step start stop
pieces_some step start stop some h = pieces_above step start stop 0 some (omega (arith, h))

-- the number of pieces of a range depends only on its length
pub pieces_moved : (step start len : ℕ) → pieces step start (start + len) ≡ pieces step 0 len
unfolding pieces
pieces_moved step start len =
    let e : start + len - start ≡ len - 0 = omega arith in ap (λ (n : ℕ). (n + (step - 1)) / step) e

-- ---- the pages of the sectors of one run

module _ (page step start stop : ℕ) (page_some : 1 ≤ page) (step_some : 1 ≤ step) where
  sector : ℕ → Range
  sector = piece step start stop

  full : (k : ℕ) → k + 1 < pieces step start stop → pieces page (piece step start stop k).start (piece step start stop k).stop ≡ pieces page 0 step
  full k h =
      let below = pieces_below step start stop (k + 1) step_some h in
      let e : min (start + (k + 1) * step) stop ≡ start + k * step + step = omega (arith, below) in
      ap (λ (n : ℕ). pieces page (start + k * step) n) e ∙ pieces_moved page (start + k * step) step

  -- a sector has at most as many pages as a full one
  pub page_below : (k m : ℕ) → m < pieces page (piece step start stop k).start (piece step start stop k).stop → m < pieces page 0 step
  page_below k m h =
      let below = pieces_below page (piece step start stop k).start (piece step start stop k).stop m page_some h in
      pieces_above page 0 step m page_some (omega (arith, below))

  abbrev sectors_from : ℕ → ℕ → List Range
  sectors_from k n = map (piece step start stop) (range_with_len k n)

  page_in : (n k j m : ℕ) → k + n ≡ pieces step start stop → j < n → m < pieces page (piece step start stop (k + j)).start (piece step start stop (k + j)).stop
      → (j * pieces page 0 step + m < length (pages_of page (sectors_from k n)))
      × (range_at (pages_of page (sectors_from k n)) (j * pieces page 0 step + m) ≡ piece page (piece step start stop (k + j)).start
      (piece step start stop (k + j)).stop m)
  unfolding pages_of
  page_in zero k j m e lj lm = absurd (omega (arith, lj))
  page_in (suc n) k zero m e lj lm =
      let s = piece step start stop k in
      let same : k + 0 ≡ k = omega arith in
      let lm' : m < pieces page s.start s.stop = subst (λ (i : ℕ). m < pieces page (piece step start stop i).start (piece step start stop i).stop) same lm in
      let long = length-cut page s.start s.stop in
      let inside : m < length (cut page s.start s.stop) = omega (arith, lm', long) in
      let first : 0 * pieces page 0 step + m ≡ m = omega arith in
      let goal = λ (i : ℕ) (q : ℕ). (q < length (cut page s.start s.stop ++ pages_of page (sectors_from (k + 1) n))) ×
      (range_at (cut page s.start s.stop ++ pages_of page (sectors_from (k + 1) n)) q ≡ piece page (piece step start stop i).start
      (piece step start stop i).stop m) in
      subst (λ (i : ℕ). goal i (0 * pieces page 0 step + m)) (sym same) (subst (λ (q : ℕ). goal k q) (sym first) (
        omega (arith, inside, length-append (cut page s.start s.stop) (pages_of page (sectors_from (k + 1) n))),
        get_or_append_left (cut page s.start s.stop) (pages_of page (sectors_from (k + 1) n)) (range 0 0) m inside ∙ cut_at page s.start s.stop m lm',
      ))
  page_in (suc n) k (suc j) m e lj lm =
      let s = piece step start stop k in
      let each : ℕ = pieces page 0 step in
      let all = full k (omega (arith, e, lj)) in
      let long : length (cut page s.start s.stop) ≡ each = length-cut page s.start s.stop ∙ all in
      let same : k + suc j ≡ k + 1 + j = omega arith in
      let lm' = subst (λ (i : ℕ). m < pieces page (piece step start stop i).start (piece step start stop i).stop) same lm in
      let rest = page_in n (k + 1) j m (omega (arith, e)) (omega (arith, lj)) lm' in
      let place : suc j * each + m ≡ length (cut page s.start s.stop) + (j * each + m) = omega (arith, long) in
      let tail : List Range = pages_of page (sectors_from (k + 1) n) in
      let goal = λ (i : ℕ) (q : ℕ). (q < length (cut page s.start s.stop ++ tail)) ×
      (range_at (cut page s.start s.stop ++ tail) q ≡ piece page (piece step start stop i).start (piece step start stop i).stop m) in
      subst (λ (i : ℕ). goal i (suc j * each + m)) (sym same) (subst (λ (q : ℕ). goal (k + 1 + j) q) (sym place) (
        omega (arith, rest.0, length-append (cut page s.start s.stop) tail),
        get_or-append-add (cut page s.start s.stop) tail (j * each + m) (range 0 0) ∙ rest.1,
      ))

  -- a page of the run is page `m` of sector `j`
  find_page : (n k q : ℕ) → k + n ≡ pieces step start stop → q < length (pages_of page (sectors_from k n))
      → (j : ℕ) × (m : ℕ) × (j < n) × (m < pieces page (piece step start stop (k + j)).start (piece step start stop (k + j)).stop) ×
      (q ≡ j * pieces page 0 step + m)
  unfolding pages_of
  find_page zero k q e lq = absurd (omega (arith, lq))
  find_page (suc n) k q e lq =
      let s = piece step start stop k in
      let each : ℕ = pieces page 0 step in
      let count : ℕ = pieces page s.start s.stop in
      let long : length (cut page s.start s.stop) ≡ count = length-cut page s.start s.stop in
      let tail : List Range = pages_of page (sectors_from (k + 1) n) in
      let all = length-append (cut page s.start s.stop) tail in
      elim (cases_lt q count) [
        | inl here ↦
            (let same : k ≡ k + 0 = omega arith in
            (0, q, omega arith, subst (λ (i : ℕ). q < pieces page (piece step start stop i).start (piece step start stop i).stop) same here, omega arith))
        | inr there ↦
            (let x = find_page n (k + 1) (q - count) (omega (arith, e)) (omega (arith, lq, all, long, there)) in
            let whole : count ≡ each = full k (omega (arith, e, x.2)) in
            let same : k + 1 + x.0 ≡ k + suc x.0 = omega arith in (
              suc x.0,
              x.1,
              omega (arith, x.2),
              subst (λ (i : ℕ). x.1 < pieces page (piece step start stop i).start (piece step start stop i).stop) same x.3,
              omega (arith, x.4, whole, there),
            ))
      ]

  pub run_page_in : (j m : ℕ) → j < pieces step start stop → m < pieces page (piece step start stop j).start (piece step start stop j).stop
      → (j * pieces page 0 step + m < length (pages_of page (cut step start stop)))
      × (range_at (pages_of page (cut step start stop)) (j * pieces page 0 step + m) ≡ piece page (piece step start stop j).start
      (piece step start stop j).stop m)
  unfolding cut
  run_page_in j m lj lm =
      let z : j ≡ 0 + j = sym (zero-add j) in
      let goal = λ (i : ℕ). (j * pieces page 0 step + m < length (pages_of page (sectors_from 0 (pieces step start stop)))) ×
      (range_at (pages_of page (sectors_from 0 (pieces step start stop))) (j * pieces page 0 step + m) ≡ piece page (piece step start stop i).start
      (piece step start stop i).stop m) in
      subst (λ (i : ℕ). goal i) (sym z)
      (page_in (pieces step start stop) 0 j m (zero-add (pieces step start stop)) lj
      (subst (λ (i : ℕ). m < pieces page (piece step start stop i).start (piece step start stop i).stop) z lm))

  pub run_find_page : (q : ℕ) → q < length (pages_of page (cut step start stop))
      → (q / pieces page 0 step < pieces step start stop)
      × (q % pieces page 0 step < pieces page (piece step start stop (q / pieces page 0 step)).start (piece step start stop (q / pieces page 0 step)).stop)
  unfolding cut
  run_find_page q lq =
      let x = find_page (pieces step start stop) 0 q (zero-add (pieces step start stop)) lq in
      let each : ℕ = pieces page 0 step in
      let z : 0 + x.0 ≡ x.0 = zero-add x.0 in
      let lm : x.1 < pieces page (piece step start stop x.0).start (piece step start stop x.0).stop =
      subst (λ (i : ℕ). x.1 < pieces page (piece step start stop i).start (piece step start stop i).stop) z x.3 in
      let under = page_below x.0 x.1 lm in
      let row : q / each ≡ x.0 = ap (λ (n : ℕ). n / each) x.4 ∙ div-mul-add x.0 each x.1 under in
      let column : q % each ≡ x.1 = ap (λ (n : ℕ). n % each) x.4 ∙ mod-mul-add x.0 each x.1 under in (
        subst (λ (n : ℕ). n < pieces step start stop) (sym row) x.2,
        subst (λ (j : ℕ). q % each < pieces page (piece step start stop j).start (piece step start stop j).stop) (sym row)
            (subst (λ (m : ℕ). m < pieces page (piece step start stop x.0).start (piece step start stop x.0).stop) (sym column) lm),
      )

  length_from : (n k : ℕ) → k + suc n ≡ pieces step start stop → length (pages_of page (sectors_from k (suc n))) ≡ n * pieces page 0 step + pieces page
      (start + (k + n) * step) stop
  unfolding pages_of
  length_from zero k e =
      let s = piece step start stop k in
      let last : min (start + (k + 1) * step) stop ≡ stop = elim (cases_lt (start + (k + 1) * step) stop) [
        | inl l ↦ (let more = pieces_above step start stop (k + 1) step_some l in absurd (omega (arith, more, e)))
        | inr g ↦ omega (arith, g)
      ] in
      let same : k ≡ k + 0 = omega arith in
      let count : length (cut page s.start s.stop) ≡ pieces page (start + (k + 0) * step) stop =
      length-cut page s.start s.stop ∙ ap (λ (n : ℕ). pieces page (start + k * step) n) last ∙ ap (λ (i : ℕ). pieces page (start + i * step) stop) same in
      length-append (cut page s.start s.stop) [] ∙ omega (arith, count)
  length_from (suc n) k e =
      let s = piece step start stop k in
      let all = full k (omega (arith, e)) in
      let count = length-cut page s.start s.stop in
      let rest = length_from n (k + 1) (omega (arith, e)) in
      let same : k + 1 + n ≡ k + suc n = omega arith in
      let rest' = subst (λ (i : ℕ). length (pages_of page (sectors_from (k + 1) (suc n))) ≡ n * pieces page 0 step + pieces page (start + i * step) stop) same
      rest in
      length-append (cut page s.start s.stop) (pages_of page (sectors_from (k + 1) (suc n))) ∙ omega (arith, count, all, rest')

  pub run_pages : 0 < pieces step start stop → length (pages_of page (cut step start stop)) ≡ (pieces step start stop - 1) * pieces page 0 step + pieces page
      (start + (pieces step start stop - 1) * step) stop
  unfolding cut
  run_pages some =
      let n : ℕ = pieces step start stop - 1 in
      let e : suc n ≡ pieces step start stop = omega (arith, some) in
      let z : 0 + n ≡ n = zero-add n in
      let first = length_from n 0 (zero-add (suc n) ∙ e) in
      let second = subst (λ (c : ℕ). length (pages_of page (sectors_from 0 c)) ≡ n * pieces page 0 step + pieces page (start + (0 + n) * step) stop) e first in
      subst (λ (i : ℕ). length (pages_of page (sectors_from 0 (pieces step start stop))) ≡ n * pieces page 0 step + pieces page (start + i * step) stop) z
      second

  pub run_counted : (count each last : ℕ) → (count ≡ 0 → ⊥) → count ≡ pieces step start stop → each ≡ pieces page 0 step →
      last ≡ pieces page (start + (count - 1) * step) stop
      → (count - 1) * each + last ≡ length (pages_of page (cut step start stop))
  run_counted count each last some e1 e2 e3 =
      let all = run_pages (omega (arith, some, e1)) in cc (all, e1, e2, e3)

  pub run_counted_less : (count each : ℕ) → (count ≡ 0 → ⊥) → count ≡ pieces step start stop → each ≡ pieces page 0 step
      → (count - 1) * each ≤ length (pages_of page (cut step start stop))
  run_counted_less count each some e1 e2 =
      let all = run_counted count each (pieces page (start + (count - 1) * step) stop) some e1 e2 refl in omega (arith, all)

  pub run_no_pages : 0 ≡ pieces step start stop → 0 ≡ length (pages_of page (cut step start stop))
  unfolding cut pages_of
  run_no_pages e = subst (λ (n : ℕ). 0 ≡ length (pages_of page (map (piece step start stop) (range_with_len 0 n)))) e refl

-- ---- runs

pub sectors_append : (xs ys : List Run) → sectors_of (xs ++ ys) ≡ sectors_of xs ++ sectors_of ys
unfolding sectors_of
sectors_append [] ys = refl
sectors_append (r ∷ xs) ys = ap (λ (s : List Range). cut r.step r.start r.stop ++ s) (sectors_append xs ys) ∙
    sym (append_assoc (cut r.step r.start r.stop) (sectors_of xs) (sectors_of ys))

pub pages_append : (page : ℕ) (xs ys : List Range) → pages_of page (xs ++ ys) ≡ pages_of page xs ++ pages_of page ys
unfolding pages_of
pages_append page [] ys = refl
pages_append page (r ∷ xs) ys = ap (λ (s : List Range). cut page r.start r.stop ++ s) (pages_append page xs ys) ∙
    sym (append_assoc (cut page r.start r.stop) (pages_of page xs) (pages_of page ys))

abbrev none : Run
none = record { start = 0; stop = 0; step = 0 }

cut_run : Run → List Range
cut_run r = cut r.step r.start r.stop

one_run : (r : Run) → sectors_of (r ∷ []) ≡ cut_run r
unfolding sectors_of cut_run
one_run r = append-nil _

module _ (page : ℕ) (runs : List Run) (k : ℕ) (here : k < length runs) where
  split : runs ≡ take k runs ++ (run_at runs k ∷ drop (k + 1) runs)
  split = sym (take-append-drop k runs) ∙ ap (λ (t : List Run). take k runs ++ t) (drop_more runs k none here)

  sectors_split : sectors_of runs ≡ sectors_of (take k runs) ++ (cut_run (run_at runs k) ++ sectors_of (drop (k + 1) runs))
  unfolding sectors_of cut_run
  sectors_split = ap sectors_of split ∙ sectors_append (take k runs) (run_at runs k ∷ drop (k + 1) runs)

  pages_split : pages_of page (sectors_of runs) ≡ pages_of page (sectors_of (take k runs)) ++
      (pages_of page (cut_run (run_at runs k)) ++ pages_of page (sectors_of (drop (k + 1) runs)))
  pages_split =
      ap (pages_of page) sectors_split ∙ pages_append page (sectors_of (take k runs)) (cut_run (run_at runs k) ++ sectors_of (drop (k + 1) runs))
      ∙ ap (λ (t : List Range). pages_of page (sectors_of (take k runs)) ++ t) (pages_append page (cut_run (run_at runs k)) (sectors_of (drop (k + 1) runs)))

  pub sectors_next : sectors_before runs (k + 1) ≡ sectors_before runs k + pieces (run_at runs k).step (run_at runs k).start (run_at runs k).stop
  unfolding sectors_before cut_run
  sectors_next =
      ap (λ (rs : List Run). length (sectors_of rs)) (take_more runs k none here)
      ∙ ap (λ (rs : List Range). length rs) (sectors_append (take k runs) (run_at runs k ∷ []) ∙
      ap (λ (rs : List Range). sectors_of (take k runs) ++ rs) (one_run (run_at runs k)))
      ∙ length-append (sectors_of (take k runs)) (cut_run (run_at runs k))
      ∙ ap (λ (n : ℕ). length (sectors_of (take k runs)) + n) (length-cut (run_at runs k).step (run_at runs k).start (run_at runs k).stop)

  pub pages_next : pages_before page runs (k + 1) ≡ pages_before page runs k + length
      (pages_of page (cut (run_at runs k).step (run_at runs k).start (run_at runs k).stop))
  unfolding pages_before cut_run
  pages_next =
      ap (λ (rs : List Run). length (pages_of page (sectors_of rs))) (take_more runs k none here)
      ∙ ap (λ (rs : List Range). length (pages_of page rs)) (sectors_append (take k runs) (run_at runs k ∷ []) ∙
      ap (λ (rs : List Range). sectors_of (take k runs) ++ rs) (one_run (run_at runs k)))
      ∙ ap (λ (rs : List Range). length rs) (pages_append page (sectors_of (take k runs)) (cut_run (run_at runs k)))
      ∙ length-append (pages_of page (sectors_of (take k runs))) (pages_of page (cut_run (run_at runs k)))

  pub sector_here : (j : ℕ) → j < pieces (run_at runs k).step (run_at runs k).start (run_at runs k).stop
      → (sectors_before runs k + j < length (sectors_of runs)) ×
      (range_at (sectors_of runs) (sectors_before runs k + j) ≡ piece (run_at runs k).step (run_at runs k).start (run_at runs k).stop j)
  unfolding sectors_before cut_run
  sector_here j h =
      let r = run_at runs k in
      let before : List Range = sectors_of (take k runs) in
      let after : List Range = sectors_of (drop (k + 1) runs) in
      let long = length-cut r.step r.start r.stop in
      let all : length (sectors_of runs) ≡ length before + (pieces r.step r.start r.stop + length after) =
      ap (λ (rs : List Range). length rs) sectors_split ∙ length-append before (cut_run r ++ after) ∙
      ap (λ (n : ℕ). length before + n) (length-append (cut_run r) after ∙ ap (λ (n : ℕ). n + length after) long) in (
        omega (arith, h, all),
        ap (λ (rs : List Range). range_at rs (length before + j)) sectors_split
            ∙ get_or-append-add before (cut_run r ++ after) j (range 0 0)
            ∙ get_or_append_left (cut_run r) after (range 0 0) j (omega (arith, h, long))
            ∙ cut_at r.step r.start r.stop j h,
      )

  pub page_here : (q : ℕ) → q < length (pages_of page (cut (run_at runs k).step (run_at runs k).start (run_at runs k).stop))
      → (pages_before page runs k + q < length (pages_of page (sectors_of runs)))
      × (range_at (pages_of page (sectors_of runs)) (pages_before page runs k + q) ≡ range_at
      (pages_of page (cut (run_at runs k).step (run_at runs k).start (run_at runs k).stop)) q)
  unfolding pages_before cut_run
  page_here q h =
      let r = run_at runs k in
      let before : List Range = pages_of page (sectors_of (take k runs)) in
      let mid : List Range = pages_of page (cut_run r) in
      let after : List Range = pages_of page (sectors_of (drop (k + 1) runs)) in
      let all : length (pages_of page (sectors_of runs)) ≡ length before + (length mid + length after) =
      ap (λ (rs : List Range). length rs) pages_split ∙ length-append before (mid ++ after) ∙ ap (λ (n : ℕ). length before + n) (length-append mid after) in (
        omega (arith, h, all),
        ap (λ (rs : List Range). range_at rs (length before + q)) pages_split
            ∙ get_or-append-add before (mid ++ after) q (range 0 0)
            ∙ get_or_append_left mid after (range 0 0) q h,
      )

pub sectors_all : (runs : List Run) (k : ℕ) → length runs ≤ k → sectors_before runs k ≡ length (sectors_of runs)
unfolding sectors_before
sectors_all runs k h = ap (λ (rs : List Run). length (sectors_of rs)) (take_all k runs h)

pub pages_all : (page : ℕ) (runs : List Run) (k : ℕ) → length runs ≤ k → pages_before page runs k ≡ length (pages_of page (sectors_of runs))
unfolding pages_before
pages_all page runs k h = ap (λ (rs : List Run). length (pages_of page (sectors_of rs))) (take_all k runs h)

pub sectors_none : (runs : List Run) → sectors_before runs 0 ≡ 0
unfolding sectors_before sectors_of
sectors_none runs = refl

pub pages_none : (page : ℕ) (runs : List Run) → pages_before page runs 0 ≡ 0
unfolding pages_before sectors_of pages_of
pages_none page runs = refl

parts : (i j : ℕ) (runs : List Run) → i ≤ j → take j runs ≡ take i runs ++ drop i (take j runs)
parts i j runs h = sym (take-append-drop i (take j runs)) ∙ ap (λ (rs : List Run). rs ++ drop i (take j runs)) (take-take i j runs h)

pub sectors_rise : (runs : List Run) (i j : ℕ) → i ≤ j → sectors_before runs i ≤ sectors_before runs j
unfolding sectors_before
sectors_rise runs i j h =
    let e = ap (λ (rs : List Run). length (sectors_of rs)) (parts i j runs h) ∙
    ap (λ (rs : List Range). length rs) (sectors_append (take i runs) (drop i (take j runs))) ∙
    length-append (sectors_of (take i runs)) (sectors_of (drop i (take j runs))) in
    omega (arith, e)

pub pages_rise : (page : ℕ) (runs : List Run) (i j : ℕ) → i ≤ j → pages_before page runs i ≤ pages_before page runs j
unfolding pages_before
pages_rise page runs i j h =
    let e = ap (λ (rs : List Run). length (pages_of page (sectors_of rs))) (parts i j runs h) ∙
    ap (λ (rs : List Range). length (pages_of page rs)) (sectors_append (take i runs) (drop i (take j runs)))
    ∙ ap (λ (rs : List Range). length rs) (pages_append page (sectors_of (take i runs)) (sectors_of (drop i (take j runs)))) ∙
    length-append (pages_of page (sectors_of (take i runs))) (pages_of page (sectors_of (drop i (take j runs)))) in
    omega (arith, e)
