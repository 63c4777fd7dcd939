-- The marks of a call's cells before it, and what they say of the cells at hand.
use Rattle.std.proofs.Common.{◌≡◌, ◌<◌, ◌≤◌, ◌+◌, ℕ, suc, List, [], ◌∷◌, ◌++◌, map, length, replicate, slice_index, get_or, refl, sym, ap, ◌∙◌, ⊎_elim}
use Rattle.std.proofs.Common.{arith}
use Rattle.std.proofs.lemmas.Bool.{cases_lt}
use Rattle.std.proofs.lemmas.List.{get_or-map, get_or-replicate, get_or_past, length-map, length-replicate, map-append}
use Rattle.shadow_step.specs.declared.marks.Mark.{Mark}
use Rattle.shadow_step.specs.declared.marks.Mark.TheVariants.{Page, Any}
use Rattle.duty_proofs.specs.declared.cells.CellMark.TheVariants.{Blank, Holds}
use Rattle.duty_proofs.specs.TargetMarks.{CellSays, CellsAgree}
use Rattle.duty_proofs.specs.Starts.{names}
use Rattle.duty_proofs.specs.Decided.{any_cell, named_cells}
use Rattle.duty_proofs.proofs.NameLemmas.{names_long, names_snoc}
use Rattle.duty_proofs.proofs.StartLemmas.{name_at}
use Rattle.duty_runs.specs.declared.ask.Task.{Task}
use Rattle.duty_runs.specs.declared.ask.Task.TheVariants.{Quiet, Erases, Programs, Compares}
use Rattle.duty_runs.specs.Asks.{before_in, own_page, FitsCell}

-- the marks of named cells, one cell after the other

pub no_cells : named_cells 0 ≡ []
unfolding names
no_cells = refl

pub one_cell_more : (i : ℕ) → named_cells i ++ Holds (Page 1 i) ∷ [] ≡ named_cells (i + 1)
one_cell_more i =
    let more : i + 1 ≡ suc i = omega arith in
    let same : 0 + i ≡ i = omega arith in
    sym (ap named_cells more ∙ ap (λ (l : List Mark). map Holds l) (names_snoc 0 i)
    ∙ map-append Holds (names 0 i) (Page 1 (0 + i) ∷ []) ∙ ap (λ (n : ℕ). named_cells i ++ Holds (Page 1 n) ∷ []) same)

-- the marks before a call, and the cells at hand that fit them

before_long : (task : Task) (many : ℕ) → length (before_in task many) ≤ many
before_long Quiet many = omega arith
before_long Erases many = omega (arith, length-replicate many any_cell)
before_long Programs many = omega (arith, length-replicate many Blank)
before_long Compares many = omega (arith, length-map (names 0 many) Holds, names_long 0 many)

named_at : (many k : ℕ) → k < many → get_or (named_cells many) k any_cell ≡ Holds (Page 1 k)
named_at many k below =
    let same : 0 + k ≡ k = omega arith in
    get_or-map Holds (names 0 many) k Any any_cell (omega (arith, below, names_long 0 many)) ∙ ap Holds (name_at 0 many k Any below)
    ∙ ap (λ (i : ℕ). Holds (Page 1 i)) same

cell_says : (task : Task) (bytes : List ℕ) (many k v : ℕ) → k < many → FitsCell task bytes k v →
    CellSays (own_page bytes) (get_or (before_in task many) k any_cell) v v
cell_says Quiet bytes many k v below fits = tt
cell_says Erases bytes many k v below fits =
    let e : get_or (replicate many any_cell) k any_cell ≡ any_cell = get_or-replicate many k any_cell any_cell below in rw e tt
cell_says Programs bytes many k v below fits =
    let e : get_or (replicate many Blank) k any_cell ≡ Blank = get_or-replicate many k Blank any_cell below in rw e (fits, fits)
cell_says Compares bytes many k v below fits = let e : get_or (named_cells many) k any_cell ≡ Holds (Page 1 k) =
    named_at many k below in rw e (sym fits, sym fits)

pub cells_agree : (task : Task) (bytes : List ℕ) (from many : ℕ) (cells : List ℕ) → from + many ≤ length cells →
    ((k : ℕ) → k < many → FitsCell task bytes k (slice_index cells (from + k))) → CellsAgree (own_page bytes) from (before_in task many) cells cells
cells_agree task bytes from many cells room fits = record {
  here = omega (arith, room, before_long task many);
  there = refl;
  says = λ k. ⊎_elim
      (λ (below : k < many). cell_says task bytes many k (slice_index cells (from + k)) below (fits k below))
      (λ (past : many ≤ k). let e : get_or (before_in task many) k any_cell ≡ any_cell =
      get_or_past (before_in task many) k any_cell (omega (arith, past, before_long task many)) in rw e tt)
      (cases_lt k many);
}
