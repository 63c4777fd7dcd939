-- The whole table is filled where its parts are.
use Rattle.std.proofs.Common.{◌≡◌, ◌<◌, ◌≤◌, ◌+◌, ◌⊎◌, ⊎_elim, ℕ, suc, zero, true, false, List, [], length, replicate}
use Rattle.std.proofs.Common.{Result, Ok, IfOk, IsSome, refl, sym, subst, arith}
use Rattle.std.proofs.lemmas.List.{length-replicate}
use Rattle.flash_layout.specs.Areas.{cells_in}
use Rattle.flash_layout.specs.Maps.{board_map}
use Rattle.flm_descriptor.specs.Shown.{Shown as AlgorithmShown}
use Rattle.board_file.specs.Shown.{Shown as BoardShown}
use Rattle.page_geometry.specs.Geometry.{IsGeometry}
use Rattle.algo_calls.specs.declared.call.Call.TheVariants as call
use Rattle.algo_calls.specs.Duties.{device_of, site_of}
use Rattle.duty_proofs.specs.Kept.{IsKind}
use Rattle.duty_proofs.specs.Decided.{Anything, Decided, Enters, State, States}
use Rattle.duty_trials.specs.declared.list.Work.TheVariants as work
use Rattle.duty_trials.specs.declared.subject.Subject.{Subject}
use Rattle.duty_trials.specs.Subjects.{algorithm_in, board_in}
use Rattle.duty_trials.proofs.SubjectLemmas.{layout_good}
use Rattle.duty_runs.specs.declared.between.Between.{Between}
use Rattle.duty_table.specs.Tables.{ListFills, states_for}
use Rattle.duty_table.proofs.StateLemmas.{are_states}
use Rattle.duty_table.specs.Filled.{AreStates, FillsAll, GoesQuiet, load_state, state_at}

-- the states of a kind of list: 1 erases, 2 programs, 3 verifies
abbrev of_kind : List State → List State → List State → ℕ → List State
of_kind erasing programming verifying zero = []
of_kind erasing programming verifying (suc zero) = erasing
of_kind erasing programming verifying (suc (suc zero)) = programming
of_kind erasing programming verifying (suc (suc (suc k))) = verifying

module _ (b : BoardShown) (a : AlgorithmShown) (region : ℕ) (erasing programming verifying : List State)
    (f : FillsAll b a region erasing programming verifying) where
  abbrev all : States
  all = record {
    count = λ kind. length (of_kind erasing programming verifying kind);
    state = λ kind i. state_at b a (of_kind erasing programming verifying kind) i;
  }

  states_are : (kind : ℕ) → AreStates b (of_kind erasing programming verifying kind)
  states_are zero = λ i d below. absurd (omega (arith, below))
  states_are (suc zero) = f.erases.states
  states_are (suc (suc zero)) = f.programs.states
  states_are (suc (suc (suc k))) = f.states

  begins : (kind : ℕ) → IsKind a kind → GoesQuiet b a (load_state b a) (call.Init kind) (Enters all kind)
  begins kind is = ⊎_elim
      (λ (e : kind ≡ 1). subst (λ (n : ℕ). GoesQuiet b a (load_state b a) (call.Init n) (Enters all n)) (sym e) f.erases.begins)
      (λ more. ⊎_elim
      (λ (e : kind ≡ 2). subst (λ (n : ℕ). GoesQuiet b a (load_state b a) (call.Init n) (Enters all n)) (sym e) f.programs.begins)
      (λ both. subst (λ (n : ℕ). GoesQuiet b a (load_state b a) (call.Init n) (Enters all n)) (sym both.0) (f.verifies both.1).begins)
      more)
      is

  abbrev Ends : ℕ → Type 0
  Ends kind = (i : ℕ) → i < all.count kind → GoesQuiet b a (all.state kind i) (call.UnInit kind) Anything

  ends : (kind : ℕ) → IsKind a kind → Ends kind
  ends kind is = ⊎_elim
      (λ (e : kind ≡ 1). subst Ends (sym e) f.erases.ends)
      (λ more. ⊎_elim
      (λ (e : kind ≡ 2). subst Ends (sym e) f.programs.ends)
      (λ both. subst Ends (sym both.0) (f.verifies both.1).ends)
      more)
      is

  pub decided : IsGeometry (device_of a) → (site_of b a region).start + (device_of a).size ≤ cells_in (board_map b).areas → 0 < (device_of a).size
      → Decided b a region
  decided good room some_cells = record {
    all = all;
    between = λ kind i below. (states_are kind i (load_state b a) below).between;
    empty = f.empty;
    good = good;
    room = room;
    sized = λ kind i below. (states_are kind i (load_state b a) below).sized;
    some_cells = some_cells;
    some = replicate (cells_in (board_map b).areas) 0;
    some_long = length-replicate (cells_in (board_map b).areas) 0;
    idle = refl;
    begins = begins;
    sector = λ k i below within. f.erases.works i within k below;
    chip = λ i has within. f.erases.chip refl has i within 0 (omega arith);
    page = λ k i below within. f.programs.works i within k below;
    check = λ k i below has within. (f.verifies has).works i within k below;
    ends = λ kind i is within. ends kind is i within;
  }

-- no truth value is both false and true: whatever is wanted follows
pub no_such : (A : Type 0) → false ≡ true → A
no_such A e = absurd cc

-- what holds of the value of a result that is Ok
pub ok_so : {A B : Type 0} (r : Result A B) (P : A → Type 0) (x : A) → r ≡ Ok x → IfOk r P → P x
ok_so r P x is so = rw is at so

pub all_filled : (t : Subject) → t.algorithm.now.device.empty ≡ 0xFF → (erasing programming verifying : List Between) → ListFills t work.Sectors erasing
    → ListFills t work.Pages programming → (IsSome (algorithm_in t).entries.verify → ListFills t work.Checks verifying)
    → Decided (board_in t) (algorithm_in t) t.region
all_filled t empty erasing programming verifying erases programs verifies =
    decided (board_in t) (algorithm_in t) t.region (states_for t erasing) (states_for t programming) (states_for t verifying)
    (record { empty = empty; erases = erases; programs = programs; states = are_states (board_in t) verifying; verifies = verifies })
    (layout_good t) (omega (arith, t.within, t.begins, t.many)) (omega (arith, t.algorithm.now.lawful.size_some))
