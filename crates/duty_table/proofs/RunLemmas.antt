-- A run that the code makes of a call is a run of the table.
use Rattle.std.proofs.Common.{◌≡◌, ◌<◌, ◌≤◌, ◌+◌, ◌-◌, ◌^◌, ⊎_elim, All, ℕ, zero, suc, List, [], length}
use Rattle.std.proofs.Common.{replicate, get_or, slice_index, Result, Ok, Err, IfOk, sym, ap, subst, ◌∙◌, arith}
use Rattle.std.proofs.lemmas.Bool.{cases_lt}
use Rattle.std.proofs.lemmas.List.{get_or-map, get_or-replicate, get_or_past, length-replicate}
use Rattle.faults.specs.declared.out_of_memory.OutOfMemory.{OutOfMemory}
use Rattle.flash_layout.specs.Areas.{cells_in}
use Rattle.flash_layout.specs.Maps.{FlashMap, board_map}
use Rattle.flm_descriptor.specs.Shape.{Range, range, range_at}
use Rattle.algo_calls.specs.declared.call.Call.{Call}
use Rattle.algo_calls.specs.declared.call.Call.TheVariants as call
use Rattle.algo_calls.specs.Setups.{Setup}
use Rattle.shadow_step.specs.declared.marks.Mark.TheVariants.{Any, Page}
use Rattle.duty_proofs.specs.declared.cells.CellMark.{CellMark}
use Rattle.duty_proofs.specs.declared.cells.CellMark.TheVariants.{Blank, Holds}
use Rattle.duty_proofs.specs.TargetMarks.{CellSays}
use Rattle.duty_proofs.specs.Starts.{names}
use Rattle.duty_proofs.specs.Decided.{State, any_cell, named_cells}
use Rattle.duty_proofs.proofs.NameLemmas.{names_long}
use Rattle.duty_trials.specs.declared.list.Work.TheVariants as work
use Rattle.duty_trials.specs.declared.subject.Span.{Span}
use Rattle.duty_trials.specs.declared.subject.Subject.{Subject}
use Rattle.duty_trials.specs.Subjects.{IsSpan, algorithm_in, board_in, setup_for, site_in}
use Rattle.duty_runs.specs.declared.ask.Ask.{Ask}
use Rattle.duty_runs.specs.declared.ask.Task.{Task}
use Rattle.duty_runs.specs.declared.ask.Task.TheVariants.{Compares, Erases, Programs, Quiet}
use Rattle.duty_runs.specs.declared.between.Between.{Between}
use Rattle.duty_runs.specs.declared.went.Went.{Went}
use Rattle.duty_runs.specs.declared.went.Went.TheVariants as went
use Rattle.duty_runs.specs.Asks.{own_page}
use Rattle.duty_runs.specs.Runs.{Decides, IfBack}
use Rattle.duty_runs.specs.States.{state_of}
use Rattle.duty_table.specs.States.{RunsTo, state_in}
use Rattle.duty_table.specs.Tables.{QuietLeaves, WorkLeaves}

-- ---- what is known of a run that came back

pub back_map : (w : Went) (P Q : Between → ℕ → Type 0) → ((left : Between) (steps : ℕ) → P left steps → Q left steps) → IfBack w P → IfBack w Q
back_map (went.Back left steps) P Q f so = f left steps so
back_map (went.Undecided pc why) P Q f so = tt

-- ---- the same run under other names

pub ok_back : (r : Result Went OutOfMemory) (P Q : Between → ℕ → Type 0) → ((left : Between) (steps : ℕ) → P left steps → Q left steps)
    → IfOk r (λ w. IfBack w P) → IfOk r (λ w. IfBack w Q)
ok_back (Ok w) P Q f so = back_map w P Q f so
ok_back (Err e) P Q f so = tt

pub runs_to : (t : Subject) (a : Ask) (st left : Between) (s : Setup) (base : ℕ) (layout : FlashMap) (cells : List ℕ) (steps : ℕ)
    → s ≡ setup_for t → base ≡ (board_in t).ram_base → layout ≡ board_map (board_in t) → length cells ≡ cells_in (board_map (board_in t)).areas
    → ((all : List ℕ) → length all ≡ length cells
    → Decides s a.task (state_of base layout all st) a.call a.bytes.now a.from a.many cells steps (state_of base layout all left))
    → RunsTo t a st left
runs_to t a st left s base layout cells steps setup at layout_is long so =
    let all : List ℕ = replicate (cells_in (board_map (board_in t)).areas) 0 in
    record {
      cells = cells;
      steps = steps;
      long = long;
      decides = subst (λ (z : Setup). Decides z a.task (state_in (board_in t) st) a.call a.bytes.now a.from a.many cells steps
          (state_in (board_in t) left)) setup
          (subst (λ (x : ℕ). Decides s a.task (state_of x (board_map (board_in t)) all st) a.call a.bytes.now a.from a.many cells steps
          (state_of x (board_map (board_in t)) all left)) at
          (subst (λ (l : FlashMap). Decides s a.task (state_of base l all st) a.call a.bytes.now a.from a.many cells steps (state_of base l all left)) layout_is
          (so all (length-replicate (cells_in (board_map (board_in t)).areas) 0 ∙ sym long))));
    }

decides_at : (s : Setup) (st left : State) (task task' : Task) (c c' : Call) (bytes bytes' : List ℕ) (from from' many many' : ℕ) (cells : List ℕ) (steps : ℕ)
    → task ≡ task' → c ≡ c' → bytes ≡ bytes' → from ≡ from' → many ≡ many' → Decides s task st c bytes from many cells steps left
    → Decides s task' st c' bytes' from' many' cells steps left
decides_at s st left task task' c c' bytes bytes' from from' many many' cells steps task_is call_is bytes_is from_is many_is d =
    subst (λ (x : Task). Decides s x st c' bytes' from' many' cells steps left) task_is
    (subst (λ (x : Call). Decides s task st x bytes' from' many' cells steps left) call_is
    (subst (λ (x : List ℕ). Decides s task st c x from' many' cells steps left) bytes_is
    (subst (λ (x : ℕ). Decides s task st c bytes x many' cells steps left) from_is
    (subst (λ (x : ℕ). Decides s task st c bytes from x cells steps left) many_is d))))

-- what a run of an ask decides, where the parts of the ask are named one by one
asked_so : (t : Subject) (a : Ask) (st left : Between) (task : Task) (c : Call) (bytes : List ℕ) (from many : ℕ) → a.task ≡ task → a.call ≡ c
    → a.bytes.now ≡ bytes → a.from ≡ from → a.many ≡ many → (r : RunsTo t a st left)
    → Decides (setup_for t) task (state_in (board_in t) st) c bytes from many r.cells r.steps (state_in (board_in t) left)
asked_so t a st left task c bytes from many task_is call_is bytes_is from_is many_is r =
    decides_at (setup_for t) (state_in (board_in t) st) (state_in (board_in t) left) a.task task a.call c a.bytes.now bytes a.from from a.many many
    r.cells r.steps task_is call_is bytes_is from_is many_is r.decides

-- ---- the cells at hand, by their marks before a call

blank_at : (s : Setup) (st left : State) (c : Call) (bytes : List ℕ) (from many : ℕ) (cells : List ℕ) (steps : ℕ)
    → (d : Decides s Programs st c bytes from many cells steps left) → (j : ℕ) → j < many → slice_index d.goes.cells (from + j) ≡ 0xFF
blank_at s st left c bytes from many cells steps d j below =
    let mark : get_or (replicate many Blank) j any_cell ≡ Blank = get_or-replicate many j Blank any_cell below in
    let says : CellSays (own_page bytes) Blank (slice_index cells (from + j)) (slice_index cells (from + j)) =
    subst (λ (m : CellMark). CellSays (own_page bytes) m (slice_index cells (from + j)) (slice_index cells (from + j))) mark (d.marked.says j) in
    ap (λ (l : List ℕ). slice_index l (from + j)) d.over' ∙ says.0

name_at : (i n j : ℕ) → j < n → get_or (names i n) j Any ≡ Page 1 (i + j)
unfolding names
name_at i zero j below = absurd (omega (arith, below))
name_at i (suc n) zero below = let e : i ≡ i + 0 = omega arith in ap (Page 1) e
name_at i (suc n) (suc j) below =
    let e : i + 1 + j ≡ i + suc j = omega arith in
    name_at (i + 1) n j (omega (arith, below)) ∙ ap (Page 1) e

named_at : (count j : ℕ) → j < count → get_or (named_cells count) j any_cell ≡ Holds (Page 1 j)
named_at count j below =
    let none : 0 + j ≡ j = omega arith in
    get_or-map Holds (names 0 count) j Any any_cell (omega (arith, below, names_long 0 count))
    ∙ ap Holds (name_at 0 count j below ∙ ap (Page 1) none)

held_at : (s : Setup) (st left : State) (c : Call) (bytes : List ℕ) (from many : ℕ) (cells : List ℕ) (steps : ℕ)
    → (d : Decides s Compares st c bytes from many cells steps left) → (j : ℕ) → j < many
    → slice_index d.goes.cells (from + j) ≡ slice_index bytes j
held_at s st left c bytes from many cells steps d j below =
    let says : CellSays (own_page bytes) (Holds (Page 1 j)) (slice_index cells (from + j)) (slice_index cells (from + j)) =
    subst (λ (m : CellMark). CellSays (own_page bytes) m (slice_index cells (from + j)) (slice_index cells (from + j))) (named_at many j below)
    (d.marked.says j) in
    ap (λ (l : List ℕ). slice_index l (from + j)) d.over' ∙ says.0

-- ---- the calls

pub small_at : (bytes : List ℕ) → All (λ v. v < 2 ^ 8) bytes → (i : ℕ) → slice_index bytes i < 2 ^ 8
small_at bytes all i = ⊎_elim
    (λ (below : i < length bytes). all i 0 below)
    (λ (past : length bytes ≤ i). let e : slice_index bytes i ≡ 0 = get_or_past bytes i 0 past in omega (arith, e))
    (cases_lt i (length bytes))

pub quiet_leaves : (t : Subject) (a : Ask) (st left : Between) (c : Call) → a.task ≡ Quiet → a.call ≡ c → a.bytes.now ≡ [] → a.from ≡ 0 → a.many ≡ 0
    → RunsTo t a st left → QuietLeaves t c st left
quiet_leaves t a st left c task call_is none from many r = (asked_so t a st left Quiet c [] 0 0 task call_is none from many r).goes

-- a span of a range has as many cells as the range has places
span_many : (t : Subject) (r : Range) (span : Span) → IsSpan t r span → span.to - span.from ≡ r.stop - r.start
span_many t r span is = omega (arith, is.from, is.to, is.order)

pub sector_leaves : (t : Subject) (a : Ask) (st left : Between) (k : ℕ) (span : Span) → IsSpan t (range_at (site_in t).layout.sectors k) span → a.task ≡ Erases
    → a.call ≡ call.EraseSector span.address → a.bytes.now ≡ [] → a.from ≡ span.from → a.many ≡ span.to - span.from → RunsTo t a st left
    → WorkLeaves t work.Sectors k st left
sector_leaves t a st left k span is task call_is none from many r =
    let x : Range = range_at (site_in t).layout.sectors k in
    (asked_so t a st left Erases (call.EraseSector ((algorithm_in t).device.base + x.start)) [] ((site_in t).start + x.start) (x.stop - x.start) task
    (call_is ∙ ap call.EraseSector is.address) none (from ∙ is.from) (many ∙ span_many t x span is) r).goes

pub chip_leaves : (t : Subject) (a : Ask) (st left : Between) (span : Span) → IsSpan t (range 0 (site_in t).layout.size) span → a.task ≡ Erases
    → a.call ≡ call.EraseChip → a.bytes.now ≡ [] → a.from ≡ span.from → a.many ≡ span.to - span.from → RunsTo t a st left
    → WorkLeaves t work.Chip 0 st left
chip_leaves t a st left span is task call_is none from many r =
    let x : Range = range 0 (site_in t).layout.size in
    (asked_so t a st left Erases call.EraseChip [] ((site_in t).start + 0) ((site_in t).layout.size - 0) task call_is none (from ∙ is.from)
    (many ∙ span_many t x span is) r).goes

pub page_leaves : (t : Subject) (a : Ask) (st left : Between) (k : ℕ) (bytes : List ℕ) (span : Span) → IsSpan t (range_at (site_in t).layout.pages k) span
    → a.task ≡ Programs → a.call ≡ call.ProgramPage span.address → a.bytes.now ≡ bytes → length bytes ≡ span.to - span.from
    → ((j : ℕ) → slice_index bytes j < 2 ^ 8) → a.from ≡ span.from → a.many ≡ span.to - span.from → RunsTo t a st left → WorkLeaves t work.Pages k st left
page_leaves t a st left k bytes span is task call_is held long small from many r =
    let x : Range = range_at (site_in t).layout.pages k in
    let at : ℕ = (site_in t).start + x.start in
    let c : Call = call.ProgramPage ((algorithm_in t).device.base + x.start) in
    let d : Decides (setup_for t) Programs (state_in (board_in t) st) c bytes at (x.stop - x.start) r.cells r.steps (state_in (board_in t) left) =
    asked_so t a st left Programs c bytes at (x.stop - x.start) task (call_is ∙ ap call.ProgramPage is.address) held (from ∙ is.from)
    (many ∙ span_many t x span is) r in (
      bytes,
      long ∙ span_many t x span is,
      small,
      (d.goes, blank_at (setup_for t) (state_in (board_in t) st) (state_in (board_in t) left) c bytes at (x.stop - x.start) r.cells r.steps d),
    )

pub check_leaves : (t : Subject) (a : Ask) (st left : Between) (k : ℕ) (bytes : List ℕ) (span : Span) → IsSpan t (range_at (site_in t).layout.pages k) span
    → a.task ≡ Compares → a.call ≡ call.Verify span.address → a.bytes.now ≡ bytes → length bytes ≡ span.to - span.from
    → ((j : ℕ) → slice_index bytes j < 2 ^ 8) → a.from ≡ span.from → a.many ≡ span.to - span.from → RunsTo t a st left → WorkLeaves t work.Checks k st left
check_leaves t a st left k bytes span is task call_is held long small from many r =
    let x : Range = range_at (site_in t).layout.pages k in
    let at : ℕ = (site_in t).start + x.start in
    let c : Call = call.Verify ((algorithm_in t).device.base + x.start) in
    let d : Decides (setup_for t) Compares (state_in (board_in t) st) c bytes at (length bytes) r.cells r.steps (state_in (board_in t) left) =
    asked_so t a st left Compares c bytes at (length bytes) task (call_is ∙ ap call.Verify is.address) held (from ∙ is.from) (many ∙ sym long) r in (
      bytes,
      long ∙ span_many t x span is,
      small,
      (d.goes, held_at (setup_for t) (state_in (board_in t) st) (state_in (board_in t) left) c bytes at (length bytes) r.cells r.steps d),
    )
