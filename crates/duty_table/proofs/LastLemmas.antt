-- The last pass: where each call leads from each state to one of the states, the table of a kind of list is filled.
use Rattle.std.proofs.Common.{◌≡◌, ◌<◌, ◌≤◌, ◌+◌, ◌⊎◌, ⊎_elim, ℕ, List, [], ◌∷◌, length, get_or, Option}
use Rattle.std.proofs.Common.{Some, None, Result, Ok, Err, IsSome, IfNone, IfOk, sym, subst, ◌∙◌, arith}
use Rattle.std.proofs.lemmas.Bool.{cases_lt}
use Rattle.std.proofs.lemmas.List.{get_or_default, length-map, get_or-map}
use Rattle.faults.specs.declared.out_of_memory.OutOfMemory.{OutOfMemory}
use Rattle.target_core.specs.World.{World}
use Rattle.algo_calls.specs.declared.call.Call.{Call}
use Rattle.algo_calls.specs.declared.call.Call.TheVariants as call
use Rattle.algo_calls.specs.Setups.{Setup}
use Rattle.duty_proofs.specs.declared.cells.CellMark.{CellMark}
use Rattle.duty_proofs.specs.TargetMarks.{TargetMarks}
use Rattle.duty_proofs.specs.Decided.{Anything, Goes, State}
use Rattle.duty_trials.specs.declared.list.Work.{Work}
use Rattle.duty_trials.specs.declared.list.Work.TheVariants as work
use Rattle.duty_trials.specs.declared.subject.Subject.{Subject}
use Rattle.duty_trials.specs.Lists.{count_of, kind_in}
use Rattle.duty_trials.specs.Subjects.{algorithm_in, board_in, site_in}
use Rattle.duty_runs.specs.declared.between.Between.{Between}
use Rattle.duty_runs.specs.declared.went.Went.{Went}
use Rattle.duty_runs.specs.declared.went.Went.TheVariants as went
use Rattle.duty_runs.specs.Runs.{IfBack, Leaves}
use Rattle.duty_table.specs.declared.reason.Reason.{Reason}
use Rattle.duty_table.specs.Alike.{FitsOne}
use Rattle.duty_table.specs.Filled.{load_state, state_at}
use Rattle.duty_table.specs.Reasons.{IsBackTo}
use Rattle.duty_table.specs.States.{state_in}
use Rattle.duty_table.specs.Tables.{CallFills, CallsFill, EndFills, EndsFill, EntersIn, InitFills, ListFills, WorksFill}
use Rattle.duty_table.specs.Tables.{QuietGoes, QuietLeaves, WorkGoes, WorkLeaves, load_for, state_for, states_for}
use Rattle.duty_table.proofs.StateLemmas.{are_states, enters}

-- what follows from the statement that holds where there is no reason holds there too
pub none_map : (o : Option Reason) (P Q : Type 0) → (P → Q) → IfNone o P → IfNone o Q
none_map None P Q f so = f so
none_map (Some reason) P Q f so = tt

pub none_so : (o : Option Reason) (P : Type 0) → o ≡ None → IfNone o P → P
none_so o P is so = rw is at so

pub ok_none : (r : Result (Option Reason) OutOfMemory) (P Q : Type 0) → (P → Q) → IfOk r (λ o. IfNone o P) → IfOk r (λ o. IfNone o Q)
ok_none (Ok o) P Q f so = none_map o P Q f so
ok_none (Err e) P Q f so = tt

-- a run whose end meets `T` is a run whose end meets `U`, where `U` follows from `T`
abbrev goes_map : (s : Setup) (place : Option (ℕ × ℕ)) (st : State) (c : Call) (bytes : List ℕ) (from len : ℕ) (before : List CellMark) (after : ℕ → CellMark)
    (T U : TargetMarks → World → Type 0) → ((m : TargetMarks) (w : World) → T m w → U m w) → Goes s place st c bytes from len before after T
    → Goes s place st c bytes from len before after U
goes_map s place st c bytes from len before after T U f g = record {
  cells = g.cells;
  steps = g.steps;
  end = g.end;
  many = g.many;
  ran = g.ran;
  from' = g.from';
  all = g.all;
  then' = f _ _ g.then';
}

work_map : (t : Subject) (w : Work) (k : ℕ) (st : State) (T U : TargetMarks → World → Type 0) → ((m : TargetMarks) (x : World) → T m x → U m x)
    → WorkGoes t w k st T → WorkGoes t w k st U
work_map t work.Sectors k st T U f g = goes_map _ _ _ _ _ _ _ _ _ T U f g
work_map t work.Chip k st T U f g = goes_map _ _ _ _ _ _ _ _ _ T U f g
work_map t work.Pages k st T U f g = (g.0, g.1, g.2, (goes_map _ _ _ _ _ _ _ _ _ T U f g.3.0, g.3.1))
work_map t work.Checks k st T U f g = (g.0, g.1, g.2, (goes_map _ _ _ _ _ _ _ _ _ T U f g.3.0, g.3.1))

pub init_fills : (t : Subject) (w : Work) (kind : ℕ) (loaded : Between) (sts : List Between) (x : Went) → kind ≡ kind_in w
    → state_for t loaded ≡ load_for t → IfBack x (λ left steps. QuietLeaves t (call.Init kind) loaded left) → IsBackTo x (λ left steps. FitsOne left sts)
    → InitFills t w sts
init_fills t w kind loaded sts (went.Undecided pc why) told same goes back = absurd back
init_fills t w kind loaded sts (went.Back left steps) told same goes back =
    subst (λ (n : ℕ). QuietGoes t (call.Init n) (load_for t) (EntersIn t sts)) told
    (subst (λ (st : State). QuietGoes t (call.Init kind) st (EntersIn t sts)) same
    (goes_map _ _ _ _ _ _ _ _ _ (Leaves (state_for t left)) (EntersIn t sts)
    (λ m x. enters (board_in t) (algorithm_in t) left sts m x back) goes))

pub call_fills : (t : Subject) (w : Work) (k : ℕ) (st : Between) (sts : List Between) (x : Went) → IfBack x (λ left steps. WorkLeaves t w k st left)
    → IsBackTo x (λ left steps. FitsOne left sts) → CallFills t w sts st k
call_fills t w k st sts (went.Undecided pc why) goes back = absurd back
call_fills t w k st sts (went.Back left steps) goes back =
    work_map t w k (state_for t st) (Leaves (state_for t left)) (EntersIn t sts) (λ m x. enters (board_in t) (algorithm_in t) left sts m x back) goes

pub end_fills : (t : Subject) (w : Work) (kind : ℕ) (st : Between) (x : Went) → kind ≡ kind_in w
    → IfBack x (λ left steps. QuietLeaves t (call.UnInit kind) st left) → IsBackTo x (λ left steps. Unit {0}) → EndFills t w st
end_fills t w kind st (went.Undecided pc why) told goes back = absurd back
end_fills t w kind st (went.Back left steps) told goes back =
    subst (λ (n : ℕ). QuietGoes t (call.UnInit n) (state_for t st) Anything) told
    (goes_map _ _ _ _ _ _ _ _ _ (Leaves (state_for t left)) Anything (λ m x so. tt) goes)

pub none_yet : (t : Subject) (w : Work) (sts : List Between) (st : Between) → CallsFill t w sts st 0
none_yet t w sts st k below = absurd (omega (arith, below))

-- where the first `n` calls lead to one of the states and the next call does, the first `n + 1` calls do
pub one_more : (t : Subject) (w : Work) (sts : List Between) (st : Between) (n : ℕ) → CallsFill t w sts st n → CallFills t w sts st n
    → CallsFill t w sts st (n + 1)
one_more t w sts st n before last k below = ⊎_elim
    (λ (less : k < n). before k less)
    (λ (past : n ≤ k). let same : n ≡ k = omega (arith, past, below) in subst (λ (j : ℕ). CallFills t w sts st j) same last)
    (cases_lt k n)

-- what holds of the first `n` states and of the next one holds of the first `n + 1` states
pub each_more : (P : Between → Type 0) (sts : List Between) (n : ℕ) (st : Between) → n < length sts → st ≡ get_or sts n st
    → ((i : ℕ) (d : Between) → i < n → P (get_or sts i d)) → P st → (i : ℕ) (d : Between) → i < n + 1 → P (get_or sts i d)
each_more P sts n st there is before last i d below = ⊎_elim
    (λ (less : i < n). before i d less)
    (λ (past : n ≤ i).
    let same : n ≡ i = omega (arith, past, below) in
    let e : st ≡ get_or sts n d = is ∙ get_or_default sts n st d there in
    subst (λ (j : ℕ). P (get_or sts j d)) same (subst P e last))
    (cases_lt i n)

-- the table's state at a place below the end is the code's state at this place
state_of_number : (t : Subject) (sts : List Between) (i : ℕ) (d : Between) → i < length sts
    → state_at (board_in t) (algorithm_in t) (states_for t sts) i ≡ state_for t (get_or sts i d)
state_of_number t sts i d below = get_or-map (state_in (board_in t)) sts i d (load_state (board_in t) (algorithm_in t)) below

inside : (t : Subject) (sts : List Between) (i : ℕ) → i < length (states_for t sts) → i < length sts
inside t sts i below = omega (arith, below, length-map sts (state_in (board_in t)))

-- the first state of a list that isn't empty
first_of : (sts : List Between) → 0 < length sts → Between
first_of [] below = absurd (omega (arith, below))
first_of (st ∷ rest) below = st

works_at : (t : Subject) (w : Work) (sts : List Between) → WorksFill t w sts → (i : ℕ) → i < length (states_for t sts) → (k : ℕ)
    → k < count_of (site_in t).layout w
    → WorkGoes t w k (state_at (board_in t) (algorithm_in t) (states_for t sts) i) (EntersIn t sts)
works_at t w sts fill i within k below =
    let there : i < length sts = inside t sts i within in
    let d : Between = first_of sts (omega (arith, there)) in
    subst (λ (st : State). WorkGoes t w k st (EntersIn t sts)) (sym (state_of_number t sts i d there)) (fill i d there k below)

pub list_fills : (t : Subject) (w : Work) (sts : List Between) → InitFills t w sts → WorksFill t w sts
    → (w ≡ work.Sectors → IsSome (algorithm_in t).entries.erase_chip → WorksFill t work.Chip sts) → EndsFill t w sts → ListFills t w sts
list_fills t w sts init works chip ends = record {
  states = are_states (board_in t) sts;
  begins = init;
  works = λ i within k below. works_at t w sts works i within k below;
  chip = λ is has i within k below. works_at t work.Chip sts (chip is has) i within k below;
  ends = λ i within.
      let there : i < length sts = inside t sts i within in
      let d : Between = first_of sts (omega (arith, there)) in
      subst (λ (st : State). QuietGoes t (call.UnInit (kind_in w)) st Anything) (sym (state_of_number t sts i d there)) (ends i d there);
}
