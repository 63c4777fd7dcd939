-- A job is carried: the call is entered at a, the job opened at b, the cells surveyed at m, and the work ended at d.
use Rattle.std.proofs.Common.{◌≡◌, ◌⊎◌, ⊎_elim, inl, inr, refl, ◌≤◌, ◌+◌, arith, ◌++◌, ◌∙◌, ℕ, Bool, true, false, List, Option, None, sym, ap, subst}
use Rattle.std.proofs.Common.{append_assoc}
use Rattle.faults.specs.Counts.{Rose}
use Rattle.outside_io.specs.State.{SinkState}
use Rattle.outside_io.specs.Appends.{AppendsPart}
use Rattle.bench_model.specs.History.{left, Leaves, AddsNothing, LeftOnly}
use Rattle.bench_model.specs.State.{BenchState, file_half, cells_half, Left, SameOutside}
use Rattle.bench_model.specs.Pairs.{PairsLeave}
use Rattle.bench_model.proofs.Moments.{leaves_as, pairs_as, pairs_then, never}
use Rattle.job_text.specs.Files.{IsWhole, IsFree}
use Rattle.campaign.specs.Stops.{IsAtClose}
use Rattle.target_core.proofs.UnitLemmas.{fresh_idle}
use Rattle.flash_session.specs.Script.{Broken}
use Rattle.flash_session.specs.Starts.{start_of}
use Rattle.report_text.specs.Refusal.{out_of_memory, store_fault, device_fault, output_fault, call_failed, mismatch}
use Rattle.command_files.specs.Call.{SinkCall, Answer, done, refused, bench_call, sink_call}
use Rattle.command_files.specs.Said.{TookNothing, TookAll, TookPart, TookPartBehind}
use Rattle.command_files.specs.Answered.{yields}
use Rattle.job_commands.specs.Answers.{is_of_work}
use Rattle.job_commands.specs.Work.{Work, body, shown_plan, Breaks, IsOnPath, IsOutsidePlanAsSurveyed}
use Rattle.job_commands.specs.Carry.{EndsBeforePlan, HasJob, HasReached, Comes, Carries, done_text, BrokenOff}
use Rattle.job_commands.specs.Steps.{FinishComes, Finishes}
use Rattle.job_commands.proofs.TurnLemmas.{turn_then, off_as, off_then, settled_then, ended_then}
use Rattle.job_commands.proofs.FinishLemmas.{nothing_broken}

-- cells that only an operation open at entry may have changed
abbrev pub AsEntered : BenchState → BenchState → Type 0
AsEntered a x = Leaves (cells_half a) (cells_half x) (λ c. SameOutside a.operation a.cells c)

pub entered : (a b : BenchState) → ((x : List ℕ) → left (cells_half a) x → SameOutside a.operation a.cells x) → AddsNothing (cells_half a) (cells_half b)
    → AsEntered a b
entered a b exact adds = leaves_as (left (cells_half a)) (λ c. SameOutside a.operation a.cells c) exact adds

-- the script begins with the cells as surveyed
pub starts_on_path : (w : Work) (broken : Broken) → IsOnPath w broken w.surveyed
starts_on_path w broken = record {
  at = start_of w.board w.surveyed;
  on = inl refl;
  left = subst (λ (o : Option (ℕ × ℕ)). SameOutside o w.surveyed w.surveyed) (sym (fresh_idle w.board.kind)) refl;
}

pub starts_outside : (w : Work) → IsOutsidePlanAsSurveyed w w.surveyed
starts_outside w = record { long = refl; same = λ i out. refl }

-- A call that ends before the script.
pub ends_early : (tells : Bool) (a x : BenchState) (out : SinkCall) (First : List ℕ → List ℕ → Type 0) (w : Work) (answer : Answer)
    → SameOutside a.operation a.cells w.surveyed → Comes (bench_call tells a x) out w nothing_broken answer → yields answer ≡ true
    → PairsLeave a x (λ f c. First f c ⊎ IsWhole (body w) f) → (off : BrokenOff a x w.surveyed)
    → (is_of_work answer ≡ false × TookNothing out) ⊎ (off.turn ≤ x.moment) → Carries (bench_call tells a x) out First w answer
ends_early tells a x out First w answer surveyed comes yield pairs off settled = record {
  surveyed = surveyed;
  broken = nothing_broken;
  comes = comes;
  stops = record {
    closing = x.moment + 1;
    pairs = never (λ f c. First f c ⊎ IsWhole (body w) f) (IsAtClose (body w) w.goal) pairs;
    broken_off = off.turn;
    at_entry = off.at_entry;
    settled = λ c le at. off.moments.from off.turn c (omega arith) le at;
    ended = off.ended;
    path = off_as off (IsOnPath w nothing_broken) (starts_on_path w nothing_broken);
    local = λ keeps. off_as off (IsOutsidePlanAsSurveyed w) (starts_outside w);
  };
  no_close = λ is. omega arith;
  settled = settled;
  complete = λ keeps. inr yield;
}

-- A call that ends before the plans are printed, on the job that the file at entry stands for.
module _ (tells sinks : Bool) (a x : BenchState) (p : SinkState) (w : Work) (whole : IsWhole (body w) a.file)
    (surveyed : SameOutside a.operation a.cells w.surveyed)
    (same : x.file ≡ a.file) (outside : SameOutside a.operation a.cells x.cells) (pairs : PairsLeave a x (λ f c. Left a f c ⊎ IsWhole (body w) f))
    (off : BrokenOff a x w.surveyed) where
  nothing : TookNothing (sink_call sinks p p)
  nothing = record { taken = refl; faults = refl }

  before_plan : EndsBeforePlan (bench_call tells a x) (sink_call sinks p p) w
  before_plan = record { job = same ∙ whole; cells = outside; prints = nothing }

  pub no_memory : Carries (bench_call tells a x) (sink_call sinks p p) (Left a) w (refused out_of_memory)
  no_memory = ends_early tells a x (sink_call sinks p p) (Left a) w (refused out_of_memory) surveyed
      (record { file = inl (same ∙ whole); cells = outside; prints = nothing }) refl pairs off (inl (refl, nothing))

  pub no_store : Carries (bench_call tells a x) (sink_call sinks p p) (Left a) w (refused store_fault)
  no_store = ends_early tells a x (sink_call sinks p p) (Left a) w (refused store_fault) surveyed (inr (inl before_plan)) refl pairs off
      (inl (refl, nothing))

  pub no_device : Carries (bench_call tells a x) (sink_call sinks p p) (Left a) w (refused device_fault)
  no_device = ends_early tells a x (sink_call sinks p p) (Left a) w (refused device_fault) surveyed (inr (inl before_plan)) refl pairs off
      (inl (refl, nothing))

  -- the call ends while the plans are printed
  pub ends_in_plan : (q : SinkState) → x.cells ≡ w.surveyed → x.operation ≡ None → TookPart (sink_call sinks p q) (shown_plan w)
      → Carries (bench_call tells a x) (sink_call sinks p q) (Left a) w (refused output_fault)
  ends_in_plan q is idle part = ends_early tells a x (sink_call sinks p q) (Left a) w (refused output_fault) surveyed
      (inl (record { job = same ∙ whole; cells = is; idle = idle; prints = part })) refl pairs off (inr (off.ended idle))

-- the pairs of file and cells that a stop leaves up to the survey
pub opened : {a b : BenchState} (body : List ℕ) → PairsLeave a b (Left a) → PairsLeave a b (λ f c. Left a f c ⊎ IsWhole body f)
opened {a} {b} body one = pairs_as (Left a) (λ f c. Left a f c ⊎ IsWhole body f) (λ f c at. inl at) one

pub looked : {a b m : BenchState} (body : List ℕ) → IsWhole body a.file → LeftOnly a.file (file_half b) → PairsLeave a b (Left a) → PairsLeave b m (Left b)
    → PairsLeave a m (λ f c. Left a f c ⊎ IsWhole body f)
looked {a} {b} {m} body whole only one two = pairs_then (λ f c. Left a f c ⊎ IsWhole body f) (opened body one)
    (pairs_as (Left b) (λ f c. Left a f c ⊎ IsWhole body f) (λ f c at. inr (only f at.0 ∙ whole)) two)

-- The plans are printed, and then comes the rest.

module _ (sinks : Bool) (p q r : SinkState) (text : List ℕ) (one : TookAll (sink_call sinks p q) text) where
  pub all_then : (rest : List ℕ) → TookAll (sink_call sinks q r) rest → TookAll (sink_call sinks p r) (text ++ rest)
  all_then rest two = record {
    taken = λ t. two.taken t ∙ ap (λ (l : List ℕ). l ++ rest) (one.taken t) ∙ append_assoc p.taken text rest;
    faults = two.faults ∙ one.faults;
  }

  pub nothing_then : TookNothing (sink_call sinks q r) → TookAll (sink_call sinks p r) text
  nothing_then two = record { taken = λ t. two.taken ∙ one.taken t; faults = two.faults ∙ one.faults }

  pub part_then : (rest : List ℕ) → TookPart (sink_call sinks q r) rest → TookPartBehind (sink_call sinks p r) text rest
  part_then rest two = record {
    taken = λ t. subst (λ (l : List ℕ). AppendsPart rest l r.taken) (one.taken t) (two.taken t);
    later = subst (λ (n : ℕ). n ≤ r.faults) one.faults two.later;
    rose = subst (λ (n : ℕ). Rose n r.faults) one.faults two.rose;
  }

module _ (tells sinks : Bool) (a m d : BenchState) (p q r : SinkState) (w : Work) (surveyed : SameOutside a.operation a.cells w.surveyed)
    (plan : TookAll (sink_call sinks p q) (shown_plan w)) where
  -- each answer of the rest is one of the whole call
  comes_then : (broken : Broken) (answer : Answer) → FinishComes (bench_call tells m d) (sink_call sinks q r) w broken answer
      → Comes (bench_call tells a d) (sink_call sinks p r) w broken answer
  comes_then b done rest = (rest.0, all_then sinks p q r (shown_plan w) plan done_text rest.1)
  comes_then b (refused store_fault) rest = inr (inr (⊎_elim
      (λ (breaks : HasJob d w × Breaks w b d). inl (record { job = breaks.0; prints = nothing_then sinks p q r (shown_plan w) plan rest.1; way = breaks.1 }))
      (λ (closes : (HasJob d w ⊎ IsFree d.file) × HasReached d w b). inr
      (record { file = closes.0; reached = closes.1; prints = nothing_then sinks p q r (shown_plan w) plan rest.1 }))
      rest.0))
  comes_then b (refused device_fault) rest = inr (inr (record { job = rest.0; prints = nothing_then sinks p q r (shown_plan w) plan rest.2; way = rest.1 }))
  comes_then b (refused output_fault) rest = inr (rest.0, part_then sinks p q r (shown_plan w) plan done_text rest.1)
  comes_then b (refused (call_failed number call end)) rest =
      record { job = rest.0; prints = nothing_then sinks p q r (shown_plan w) plan rest.2; way = rest.1 }
  comes_then b (refused (mismatch at wanted found)) rest =
      record { job = rest.0; prints = nothing_then sinks p q r (shown_plan w) plan rest.2; way = rest.1 }
  comes_then b (refused other) rest = absurd rest

  pub ends_finished : (First : List ℕ → List ℕ → Type 0) (answer : Answer) → PairsLeave a m (λ f c. First f c ⊎ IsWhole (body w) f) → BrokenOff a m w.surveyed
      → m.operation ≡ None
      → Finishes (bench_call tells m d) (sink_call sinks q r) w answer → Carries (bench_call tells a d) (sink_call sinks p r) First w answer
  ends_finished First answer pairs off idle rest = record {
    surveyed = surveyed;
    broken = rest.broken;
    comes = comes_then rest.broken answer rest.comes;
    stops = record {
      closing = rest.closing;
      pairs = turn_then (λ f c. First f c ⊎ IsWhole (body w) f) (λ f c. IsWhole (body w) f) (IsAtClose (body w) w.goal) (λ f c whole. inr whole)
          pairs rest.pairs (λ k f le at. (rest.files_past k f le).0 at) (λ k x le at. (rest.path.goes_on.past k x le).0 at);
      broken_off = off.turn;
      at_entry = off.at_entry;
      settled = λ c le at. settled_then a m d off idle (IsOnPath w rest.broken) rest.path c at;
      ended = λ is. ended_then a m d off idle (IsOnPath w rest.broken) rest.path;
      path = off_then a m d off idle (IsOnPath w rest.broken) rest.path (starts_on_path w rest.broken);
      local = λ keeps. off_then a m d off idle (IsOutsidePlanAsSurveyed w) (rest.local keeps) (starts_outside w);
    };
    no_close = rest.no_close;
    settled = inr (ended_then a m d off idle (IsOnPath w rest.broken) rest.path);
    complete = rest.complete;
  }
