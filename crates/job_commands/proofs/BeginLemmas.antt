-- A job is begun (a to b) and then carried (b to d): `begin_job` joins the two stretches.
use Rattle.std.proofs.Common.{arith, ◌≡◌, ◌⊎◌, ⊎_elim, inl, inr, refl, ◌∙◌, ℕ, Bool, true, false, List, [], ◌∷◌, length, IsTrue, Option, None, sym, subst}
use Rattle.outside_io.specs.State.{SinkState}
use Rattle.bench_model.specs.History.{GoesOn, Leaves, LeftOnly}
use Rattle.bench_model.specs.State.{BenchState, file_half, cells_half, Left, SameOutside}
use Rattle.bench_model.specs.Pairs.{PairsLeave}
use Rattle.job_text.specs.Files.{IsFree, IsWhole}
use Rattle.job_text.specs.Body.{body_of}
use Rattle.job_text.specs.Jobs.{IsJob}
use Rattle.job_text.specs.Parts.{job_of, AreParts}
use Rattle.job_text.specs.declared.parts.JobParts.{JobParts}
use Rattle.job_text.proofs.PartLemmas.{job_of_parts}
use Rattle.campaign.specs.Stops.{IsUntouched, IsAtClose}
use Rattle.flash_session.specs.declared.goal.Goal.TheVariants.{New}
use Rattle.flash_session.specs.Script.{Broken}
use Rattle.report_text.specs.Refusal.{Refusal, out_of_memory, input_fault, no_job, not_a_job, damaged, cells_differ, store_fault, device_fault, output_fault}
use Rattle.report_text.specs.Refusal.{call_failed, mismatch}
use Rattle.command_files.specs.Call.{BenchCall, SinkCall, Answer, done, refused, bench_call, sink_call}
use Rattle.command_files.specs.Said.{TookPartBehind}
use Rattle.command_files.specs.Answered.{yields, StandsEarly, IsOf, on_job_file}
use Rattle.command_files.proofs.FileLemmas.{not_free}
use Rattle.job_commands.specs.Answers.{is_of_work}
use Rattle.job_commands.specs.Work.{Work, body, shown_plan, Breaks, IsOnPath, IsOutsidePlanAsSurveyed}
use Rattle.job_commands.specs.Carry.{EndsInBegin, NeverBegun, EndsBeforePlan, EndsInPlan, EndsInScript, EndsInClose, HasClosed, Comes, CellsInTurn, BrokenOff}
use Rattle.job_commands.specs.Carry.{Carries, done_text}
use Rattle.job_commands.specs.GoOn.{work_to, GoesOnFrom, has_resume}
use Rattle.job_commands.specs.Begin.{BegunComes, BeginsAlone}
use Rattle.job_commands.specs.Steps.{has_start, begun, StartsParts, BeginsParts}
use Rattle.job_commands.proofs.TurnLemmas.{same_here, turn_then, off_then, settled_then, ended_then}
use Rattle.job_commands.proofs.FinishLemmas.{nothing_broken}
use Rattle.job_commands.proofs.CarryLemmas.{ends_early, starts_on_path, starts_outside}
use Rattle.job_commands.proofs.StartLemmas.{over_free, over_as}

three_cases : {A B C R : Type 0} → (A → R) → (B → R) → (C → R) → A ⊎ (B ⊎ C) → R
three_cases {A} {B} {C} a b c either = ⊎_elim (λ (x : A). a x) (λ (rest : B ⊎ C). ⊎_elim (λ (x : B). b x) (λ (x : C). c x) rest) either

-- From b on no operation is open, and the file stands for the job.

module _ (tells : Bool) (a b d : BenchState) (out : SinkCall) (w : Work) (idle : b.operation ≡ None) (same : SameOutside a.operation a.cells b.cells)
    (whole : IsWhole (body w) b.file) where
  exactly : (c : List ℕ) → SameOutside b.operation b.cells c → c ≡ b.cells
  exactly c outside = subst (λ (o : Option (ℕ × ℕ)). SameOutside o b.cells c) idle outside

  entered_before : (c : List ℕ) → SameOutside b.operation b.cells c → SameOutside a.operation a.cells c
  entered_before c outside = subst (λ (x : List ℕ). SameOutside a.operation a.cells x) (sym (exactly c outside)) same

  has_begun : EndsBeforePlan (bench_call tells b d) out w → EndsBeforePlan (bench_call tells a d) out w
  has_begun early = record {
    job = early.job;
    cells = entered_before d.cells early.cells;
    prints = early.prints;
  }

  begun_comes : (k : Broken) (answer : Answer) → Comes (bench_call tells b d) out w k answer → Comes (bench_call tells a d) out w k answer
  begun_comes k done comes = comes
  begun_comes k (refused out_of_memory) comes = record {
    file = inl (⊎_elim (λ (has : IsWhole (body w) d.file). has) (λ (as_read : d.file ≡ b.file). as_read ∙ whole) comes.file);
    cells = entered_before d.cells comes.cells;
    prints = comes.prints;
  }
  begun_comes k (refused store_fault) comes = three_cases
      (λ (before : EndsInBegin (bench_call tells b d) out (body w)). absurd (not_free w.job b.file whole before.free))
      (λ (early : EndsBeforePlan (bench_call tells b d) out w). inr (inl (has_begun early)))
      (λ (later : EndsInScript (bench_call tells b d) out w (Breaks w k d) ⊎ EndsInClose (bench_call tells b d) out w k). inr (inr (⊎_elim
      (λ (cut : EndsInScript (bench_call tells b d) out w (Breaks w k d)). inl (record { job = cut.job; prints = cut.prints; way = cut.way }))
      (λ (late : EndsInClose (bench_call tells b d) out w k). inr (record { file = late.file; reached = late.reached; prints = late.prints }))
      later)))
      comes
  begun_comes k (refused device_fault) comes = three_cases
      (λ (before : EndsInBegin (bench_call tells b d) out (body w) × NeverBegun (bench_call tells b d)). absurd (not_free w.job b.file whole before.0.free))
      (λ (early : EndsBeforePlan (bench_call tells b d) out w). inr (inl (has_begun early)))
      (λ (late : EndsInScript (bench_call tells b d) out w (Breaks w k d)). inr (inr (record { job = late.job; prints = late.prints; way = late.way })))
      comes
  begun_comes k (refused output_fault) comes = ⊎_elim
      (λ (early : EndsInPlan (bench_call tells b d) out w). inl (record { job = early.job; cells = early.cells; idle = early.idle; prints = early.prints }))
      (λ (late : HasClosed d w k × TookPartBehind out (shown_plan w) done_text). inr late)
      comes
  begun_comes k (refused (call_failed number call end)) comes = record { job = comes.job; prints = comes.prints; way = comes.way }
  begun_comes k (refused (mismatch at wanted found)) comes = record { job = comes.job; prints = comes.prints; way = comes.way }
  begun_comes k (refused (input_fault name)) comes = tt
  begun_comes k (refused other) comes = absurd comes

  -- what holds of the cells from the turn on, where the turn is at b
  from_there : {turn : ℕ} {First : List ℕ → Type 0} (P : List ℕ → Type 0) → turn ≡ b.moment → CellsInTurn b d turn First P
      → Leaves (cells_half b) (cells_half d) P
  from_there {turn} {First} P is one = record { goes_on = one.goes_on; each = λ k c from to at. one.from k c (omega (arith, from, is)) to at }

  begun_carries : (answer : Answer) → LeftOnly (165 ∷ body w) (file_half b) → w.surveyed ≡ b.cells
      → PairsLeave a b (λ f c. IsUntouched a f c ⊎ IsWhole (body w) f) → BrokenOff a b w.surveyed → GoesOn (file_half b) (file_half d)
      → Carries (bench_call tells b d) out (Left b) w answer → Carries (bench_call tells a d) out (IsUntouched a) w answer
  begun_carries answer only surveyed pairs off on rest =
      let path = from_there (IsOnPath w rest.broken) (rest.stops.at_entry idle) rest.stops.path in record {
        surveyed = subst (λ (x : List ℕ). SameOutside a.operation a.cells x) (sym surveyed) same;
        broken = rest.broken;
        comes = begun_comes rest.broken answer rest.comes;
        stops = record {
          closing = rest.stops.closing;
          pairs = turn_then (λ f c. IsUntouched a f c ⊎ IsWhole (body w) f) (λ f c. Left b f c ⊎ IsWhole (body w) f) (IsAtClose (body w) w.goal)
              (λ f c either. ⊎_elim (λ (at : Left b f c). inr (only f at.0)) (λ (is : IsWhole (body w) f). inr is) either)
              pairs rest.stops.pairs (λ k f le at. (on.past k f le).0 at) (λ k x le at. (rest.stops.path.goes_on.past k x le).0 at);
          broken_off = off.turn;
          at_entry = off.at_entry;
          settled = λ c le at. settled_then a b d off idle (IsOnPath w rest.broken) path c at;
          ended = λ is. ended_then a b d off idle (IsOnPath w rest.broken) path;
          path = off_then a b d off idle (IsOnPath w rest.broken) path (starts_on_path w rest.broken);
          local = λ keeps. off_then a b d off idle (IsOutsidePlanAsSurveyed w)
              (from_there (IsOutsidePlanAsSurveyed w) (rest.stops.at_entry idle) (rest.stops.local keeps)) (starts_outside w);
        };
        no_close = rest.no_close;
        settled = inr (ended_then a b d off idle (IsOnPath w rest.broken) path);
        complete = rest.complete;
      }

-- an answer of the work on a job stays the same once the job was begun
pub begun_is : {bench : BenchCall} {out : SinkCall} {First : List ℕ → List ℕ → Type 0} {w : Work} (answer : Answer) → Carries bench out First w answer
    → begun answer ≡ answer
begun_is (refused no_job) carries = absurd carries.comes
begun_is answer carries = refl

-- after a job was begun its file is never refused, on a bench that tells its contents
pub begun_stands : (tells sinks : Bool) (a b d : BenchState) (p r : SinkState) (First : List ℕ → List ℕ → Type 0) (w : Work) (answer : Answer)
    → IsOf has_resume answer
    → StandsEarly on_job_file (bench_call tells b d) (sink_call sinks p r) answer
    → (IsTrue tells → Carries (bench_call tells b d) (sink_call sinks p r) First w answer)
    → StandsEarly on_job_file (bench_call tells a d) (sink_call sinks p r) (begun answer)
begun_stands tells sinks a b d p r First w done kind early carries = tt
begun_stands tells sinks a b d p r First w (refused out_of_memory) kind early carries = early
begun_stands tells sinks a b d p r First w (refused no_job) kind early carries = record { reads = λ told. absurd ((carries told).comes); prints = early.prints }
begun_stands tells sinks a b d p r First w (refused (not_a_job at)) kind early carries =
    record { reads = λ told. absurd ((carries told).comes); prints = early.prints }
begun_stands tells sinks a b d p r First w (refused (damaged kept found)) kind early carries =
    record { reads = λ told. absurd ((carries told).comes); prints = early.prints }
begun_stands tells sinks a b d p r First w (refused (cells_differ wanted found)) kind early carries =
    record { reads = λ told. absurd ((carries told).comes); prints = early.prints }
begun_stands tells sinks a b d p r First w (refused store_fault) kind early carries = tt
begun_stands tells sinks a b d p r First w (refused device_fault) kind early carries = tt
begun_stands tells sinks a b d p r First w (refused output_fault) kind early carries = tt
begun_stands tells sinks a b d p r First w (refused (call_failed number call end)) kind early carries = tt
begun_stands tells sinks a b d p r First w (refused (mismatch at wanted found)) kind early carries = tt
begun_stands tells sinks a b d p r First w (refused other) kind early carries = absurd (cc)

-- A job was begun, which left the state b.
pub record IsBegun (a b : BenchState) (parts : JobParts) : Type 0 where
  pub is_free : IsFree a.file
  pub same : SameOutside a.operation a.cells b.cells
  pub whole : IsWhole (body_of (job_of parts b.cells)) b.file
  pub only : LeftOnly (165 ∷ body_of (job_of parts b.cells)) (file_half b)
  pub idle : b.operation ≡ None
  pub pairs : PairsLeave a b (λ f c. IsUntouched a f c ⊎ IsWhole (body_of (job_of parts b.cells)) f)
  pub off : BrokenOff a b b.cells

pub begun_of : (tells sinks : Bool) (a b : BenchState) (p : SinkState) (parts : JobParts) → AreParts parts → parts.size ≡ a.cell_count
    → StartsParts (bench_call tells a b) (sink_call sinks p p) [] parts done → IsBegun a b parts
begun_of tells sinks a b p parts are sized starts =
    let is_free = starts.free refl in
    let of = starts.begins are is_free sized in
    let has = of.2.comes.0 in
    let whole : IsWhole (body_of (job_of parts b.cells)) b.file = subst (λ (s : List ℕ). IsWhole (body_of (job_of parts s)) b.file) (sym has.cells) has.file in
    record {
      is_free = is_free;
      same = subst (λ (s : List ℕ). SameOutside a.operation a.cells s) (sym has.cells) of.2.surveyed;
      whole = whole;
      only = subst (λ (f : List ℕ). LeftOnly f (file_half b)) whole has.only;
      idle = has.idle;
      pairs = subst (λ (s : List ℕ). PairsLeave a b (λ f c. IsUntouched a f c ⊎ IsWhole (body_of (job_of parts s)) f)) (sym has.cells) of.2.pairs;
      off = subst (λ (s : List ℕ). BrokenOff a b s) (sym has.cells) of.2.broken_off;
    }

-- A job that couldn't be begun is not carried either.
module _ (tells sinks : Bool) (a b : BenchState) (p : SinkState) (parts : JobParts) where
  unbegun : (w : Work) (r : Refusal) → IsTrue tells → w.surveyed ≡ w.job.snapshot → IsOf has_start (refused r)
      → BeginsAlone (bench_call tells a b) (sink_call sinks p p) [] w.job (refused r)
      → Carries (bench_call tells a b) (sink_call sinks p p) (IsUntouched a) w (refused r)
  unbegun w r told is kind alone = early r kind alone.comes where
    surveyed : SameOutside a.operation a.cells w.surveyed
    surveyed = subst (λ (s : List ℕ). SameOutside a.operation a.cells s) (sym is) alone.surveyed

    off : BrokenOff a b w.surveyed
    off = subst (λ (s : List ℕ). BrokenOff a b s) (sym is) alone.broken_off

    ends : (q : Refusal) → Comes (bench_call tells a b) (sink_call sinks p p) w nothing_broken (refused q) → yields (refused q) ≡ true
        → is_of_work (refused q) ≡ false → Carries (bench_call tells a b) (sink_call sinks p p) (IsUntouched a) w (refused q)
    ends q comes yield before = ends_early tells a b (sink_call sinks p p) (IsUntouched a) w (refused q) surveyed comes yield alone.pairs off
        (inl (before, record { taken = refl; faults = refl }))

    early : (q : Refusal) → IsOf has_start (refused q) → BegunComes (bench_call tells a b) (sink_call sinks p p) [] w.job (refused q)
        → Carries (bench_call tells a b) (sink_call sinks p p) (IsUntouched a) w (refused q)
    early out_of_memory kind comes =
        let reads = comes.reads told in
        ends out_of_memory (record { file = inr (reads.file told); cells = same_here a.operation reads.cells.cells; prints = comes.prints }) refl refl
    early (input_fault name) kind comes = absurd (cc)
    early store_fault kind comes = ends store_fault (inl comes) refl refl
    early device_fault kind comes = ends device_fault (inl comes) refl refl
    early output_fault kind comes = absurd (cc)
    early q kind comes = absurd comes

  pub begins_refused : (r : Refusal) → IsTrue tells → IsOf has_start (refused r) → StartsParts (bench_call tells a b) (sink_call sinks p p) [] parts (refused r)
      → BeginsParts (bench_call tells a b) (sink_call sinks p p) parts (refused r)
  begins_refused r told kind starts = over_as (bench_call tells a b) (sink_call sinks p p) parts.size (refused r)
      (λ are of. (of.0, of.1, unbegun (work_to New (job_of parts of.0) are.board are.algorithms of.0) r told refl kind of.2)) starts

-- The whole call: a job was begun, and then carried.
module _ (tells sinks : Bool) (a b d : BenchState) (p r : SinkState) (parts : JobParts) (answer : Answer) (sized : parts.size ≡ a.cell_count)
    (count : b.cell_count ≡ a.cell_count) (many : length b.cells ≡ b.cell_count) (has : IsBegun a b parts)
    (from : GoesOnFrom New (bench_call tells b d) (sink_call sinks p r) answer) where
  abbrev works : AreParts parts → Work
  works are = work_to New (job_of parts b.cells) are.board are.algorithms b.cells

  is_job : (are : AreParts parts) → IsJob (job_of parts b.cells) are.board are.algorithms
  is_job are = job_of_parts parts are b.cells (many ∙ count ∙ sym sized)

  pub carried : (are : AreParts parts) → Carries (bench_call tells b d) (sink_call sinks p r) (Left b) (works are) answer
  carried are =
      let its = from.stands (job_of parts b.cells) are.board are.algorithms (is_job are) has.whole (are.size ∙ sized ∙ sym count) in
      subst (λ (s : List ℕ). Carries (bench_call tells b d) (sink_call sinks p r) (Left b) (work_to New (job_of parts b.cells) are.board are.algorithms s)
      answer)
      (exactly tells a b d (sink_call sinks p r) (works are) has.idle has.same has.whole its.0 its.1.surveyed) its.1

  pub begins_whole : AreParts parts → GoesOn (file_half b) (file_half d) → BeginsParts (bench_call tells a d) (sink_call sinks p r) parts (begun answer)
  begins_whole one on =
      subst (λ (x : Answer). BeginsParts (bench_call tells a d) (sink_call sinks p r) parts x) (sym (begun_is answer (carried one)))
      (over_free (bench_call tells a d) (sink_call sinks p r) parts.size answer has.is_free sized (λ are. (
        b.cells,
        is_job are,
        begun_carries tells a b d (sink_call sinks p r) (works are) has.idle has.same has.whole answer has.only refl has.pairs has.off on (carried are),
      )))
