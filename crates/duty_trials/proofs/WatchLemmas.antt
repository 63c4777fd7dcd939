-- What was seen on a bench stays seen, and an operation outside a range is seen.
use Rattle.std.proofs.Common.{unwrap_or, subst, ◌≡◌, ◌<◌, ◌≤◌, ◌+◌, ◌-◌, ◌⊎◌, ⊎_elim, inl, inr, ℕ, List, length, Option, Some, None, sym, ap, ◌∙◌, arith}
use Rattle.std.specs.Prelude.{slice_index, slice_set}
use Rattle.std.proofs.lemmas.Bool.{cases_lt}
use Rattle.std.proofs.lemmas.List.{length-set, get_or-set_same, take-set-le, drop-set-lt, get_or-take, get_or-drop}
use Rattle.bench_model.specs.History.{Half, GoesOn, left}
use Rattle.bench_model.specs.State.{BenchState, cells_half, SameOutside}
use Rattle.duty_trials.specs.Watched.{WasOpen, IsSeen, PlaceIn}
use Rattle.duty_trials.specs.Trials.{SeenOutside}

later : (range : ℕ × ℕ) (a b : Half) → GoesOn a b → WasOpen range a → WasOpen range b
later range a b on seen = record {
  moment = seen.moment;
  past = omega (arith, seen.past, on.later);
  cells = seen.cells;
  some = seen.some;
  within = seen.within;
  may = λ x same. (on.past seen.moment x seen.past).1 (seen.may x same);
}

pub seen_later : (outside : Option (ℕ × ℕ)) (a b : Half) → GoesOn a b → IsSeen outside a → IsSeen outside b
seen_later outside a b on seen = λ none. seen (λ one. none (record { was = λ range is. later range a b on (one.was range is) }))

-- nothing was seen outside
pub seen_none : (h : Half) → IsSeen None h
seen_none h = λ none. none (record { was = λ range is. let no : None ≡ Some range = is in absurd cc })

-- an operation that is open now is seen
pub seen_now : (range : ℕ × ℕ) (h : Half) (cells : List ℕ) → 0 < range.1 → range.0 + range.1 ≤ length cells
    → ((x : List ℕ) → SameOutside (Some range) cells x → left h x)
    → IsSeen (Some range) h
seen_now range h cells some within may = λ none. none (record {
  was = λ other is.
      let same : range ≡ other = ap (λ (o : Option (ℕ × ℕ)). unwrap_or o range) is in
      subst (λ (r : ℕ × ℕ). WasOpen r h) same (record { moment = h.now; past = omega arith; cells = cells; some = some; within = within; may = may });
})

-- cells outside the place are the same
same_at : (place : Option (ℕ × ℕ)) (from to cell : ℕ) (x y : List ℕ) → PlaceIn from to place → (cell < from) ⊎ (to ≤ cell) → SameOutside place x y
    → slice_index y cell ≡ slice_index x cell
same_at None from to cell x y fits out same = ap (λ (l : List ℕ). slice_index l cell) same
same_at (Some place) from to cell x y fits out same = ⊎_elim
    (λ (less : cell < from).
    let under : cell < place.0 = omega (arith, less, fits.0) in
    sym (get_or-take place.0 y cell 0 under) ∙ ap (λ (l : List ℕ). slice_index l cell) same.1 ∙ get_or-take place.0 x cell 0 under)
    (λ (le : to ≤ cell).
    let n = place.0 + place.1 in
    let at : n + (cell - n) ≡ cell = omega (arith, le, fits.1) in
    ap (λ (i : ℕ). slice_index y i) (sym at) ∙ sym (get_or-drop n y (cell - n) 0) ∙ ap (λ (l : List ℕ). slice_index l (cell - n)) same.2
    ∙ get_or-drop n x (cell - n) 0 ∙ ap (λ (i : ℕ). slice_index x i) at)
    out

-- a cell of an open operation may hold any value, so a cell outside the place may differ from what it was
at_cell : (place : Option (ℕ × ℕ)) (from to cell : ℕ) (range : ℕ × ℕ) (cells : List ℕ) (start end : BenchState) → range.0 ≤ cell → cell < range.0 + range.1
    → start.moment ≡ 0 → PlaceIn from to place → (cell < from) ⊎ (to ≤ cell) → WasOpen range (cells_half end) → SeenOutside place cells start end
at_cell place from to cell range cells start end above below begins fits out seen =
    let v = slice_index cells cell + 1 in
    let x : List ℕ = slice_set seen.cells cell v in
    record {
      moment = seen.moment;
      since = omega (arith, begins);
      past = seen.past;
      left = x;
      may = seen.may x (length-set seen.cells cell v, take-set-le range.0 seen.cells cell v above, drop-set-lt (range.0 + range.1) seen.cells cell v below);
      differs = λ same.
          let put : slice_index x cell ≡ slice_index cells cell + 1 = get_or-set_same seen.cells cell v 0 (omega (arith, below, seen.within)) in
          let is : slice_index x cell ≡ slice_index cells cell = same_at place from to cell cells x fits out same in
          absurd (omega (arith, put, is));
    }

-- an operation outside its place is seen, on a bench with its first moment at the call
pub seen_outside : (place : Option (ℕ × ℕ)) (from to : ℕ) (range : ℕ × ℕ) (cells : List ℕ) (start end : BenchState) → start.moment ≡ 0 → PlaceIn from to place
    → ((from ≤ range.0) × (range.0 + range.1 ≤ to) → ⊥) → WasOpen range (cells_half end) → SeenOutside place cells start end
seen_outside place from to range cells start end begins fits out seen = ⊎_elim
    (λ (less : range.0 < from). at_cell place from to range.0 range cells start end (omega arith) (omega (arith, seen.some)) begins fits (inl less) seen)
    (λ (le : from ≤ range.0). ⊎_elim
    (λ (over : to < range.0 + range.1).
    at_cell place from to (range.0 + range.1 - 1) range cells start end (omega (arith, seen.some)) (omega (arith, seen.some)) begins fits
    (inr (omega (arith, over))) seen)
    (λ (under : range.0 + range.1 ≤ to). absurd (out (le, under)))
    (cases_lt to (range.0 + range.1)))
    (cases_lt range.0 from)
