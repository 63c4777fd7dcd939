-- Counts of faults, and what an answer leaves, for every command.
use Rattle.std.proofs.Common.{◌≡◌, ◌∙◌, sym, ap, subst, refl, arith, ℕ, Bool, true, false, IsTrue, List, Some, None}
use Rattle.bench_model.specs.State.{BenchState}
use Rattle.bench_model.proofs.Moments.{only_reads_here, file_stays_here, cells_stay_here}
use Rattle.outside_io.specs.State.{SinkState}
use Rattle.report_text.specs.Refusal.{Refusal, out_of_memory, usage, input_fault, image_too_long, flm_refused, other_device, no_room, board_refused}
use Rattle.report_text.specs.Refusal.{image_refused, image_misplaced, job_open, no_job, not_a_job, damaged, cells_differ, store_fault, device_fault}
use Rattle.report_text.specs.Refusal.{output_fault}
use Rattle.report_text.proofs.StatusLemmas.{some_status}
use Rattle.command_files.specs.Inputs.{InputsCall, IsFile, IsUntaken, NoneFailed, TakesNothing}
use Rattle.command_files.specs.Steps.{IsTakeFault}
use Rattle.command_files.specs.Call.{BenchCall, SinkCall, Answer, done, refused, bench_call, sink_call, IsUntouched}
use Rattle.command_files.specs.Said.{Says}
use Rattle.command_files.specs.Answered.{Fault, input, store, device, output, fault_in, IsCounted, AreCounted, DidNothing, OnlyLooked, Scope, on_files}
use Rattle.command_files.specs.Answered.{on_job_file, on_own_bench, AtSeven, AtOne, StandsEarly, IsOf, EndsLawfully}

-- The status.

-- status 0 means "done"
pub zero_is_done : (status : ℕ) (err : SinkCall) (answer : Answer) → Says status err answer → status ≡ 0 → answer ≡ done
zero_is_done status err done says zero = refl
zero_is_done status err (refused refusal) says zero = absurd (omega (arith, some_status refusal, says.0, zero))

-- Counts.

pub unraised : (before after : ℕ) (fault : Fault) (answer : Answer) → after ≡ before → (fault_in answer ≡ Some fault → ⊥) → IsCounted before after fault answer
unraised before after fault answer same other = record {
  later = omega (arith, same);
  only = λ is. absurd (other is);
  answered = λ more. absurd (omega (arith, same, more));
}

-- an answer that is no fault
no_fault : (answer : Answer) (fault : Fault) → fault_in answer ≡ None → fault_in answer ≡ Some fault → ⊥
no_fault answer fault none is = cc

-- a command without a fault of the job file never answers one
pub never_store : (has : Refusal → Bool) → has store_fault ≡ false → (answer : Answer) → IsOf has answer → fault_in answer ≡ Some store → ⊥
never_store has none done kind is = cc
never_store has none (refused (input_fault name)) kind is = let same : input ≡ store = cc in cc
never_store has none (refused store_fault) kind is = let same : true ≡ false = sym kind ∙ none in cc
never_store has none (refused device_fault) kind is = let same : device ≡ store = cc in cc
never_store has none (refused output_fault) kind is = let same : output ≡ store = cc in cc
never_store has none (refused r) kind is = cc

-- a command that takes no files never answers a fault of the inputs
pub never_input : (has : Refusal → Bool) → ((name : List ℕ) → has (input_fault name) ≡ false) → (answer : Answer) → IsOf has answer
    → fault_in answer ≡ Some input → ⊥
never_input has none done kind is = cc
never_input has none (refused (input_fault name)) kind is = let same : true ≡ false = sym kind ∙ none name in cc
never_input has none (refused store_fault) kind is = let same : store ≡ input = cc in cc
never_input has none (refused device_fault) kind is = let same : device ≡ input = cc in cc
never_input has none (refused output_fault) kind is = let same : output ≡ input = cc in cc
never_input has none (refused r) kind is = cc

-- Where the bench and `out` weren't called.

pub untouched_here : (tells : Bool) (b : BenchState) → IsUntouched (bench_call tells b b)
untouched_here tells b = record { file = file_stays_here b; cells = cells_stay_here b }

pub did_nothing : (tells told : Bool) (b : BenchState) (o : SinkState) → DidNothing (bench_call tells b b) (sink_call told o o)
did_nothing tells told b o = record { untouched = untouched_here tells b; prints = record { taken = refl; faults = refl } }

pub only_looked : (tells told : Bool) (b : BenchState) (o : SinkState) → OnlyLooked (bench_call tells b b) (sink_call told o o)
only_looked tells told b o = record { reads = λ is. only_reads_here tells b; prints = record { taken = refl; faults = refl } }

pub at_one : (scope : Scope) (bench : BenchCall) (out : SinkCall) → DidNothing bench out → AtOne scope out
at_one on_files bench out did = did.prints
at_one on_job_file bench out did = did.prints
at_one on_own_bench bench out did = tt

stands_early : (scope : Scope) (bench : BenchCall) (out : SinkCall) (r : Refusal) → AtSeven scope bench out → DidNothing bench out
    → StandsEarly scope bench out (refused r)
stands_early A bench out out_of_memory seven did = at_one A bench out did
stands_early A bench out usage seven did = did
stands_early A bench out (input_fault name) seven did = did
stands_early A bench out (image_too_long bytes cells) seven did = did
stands_early A bench out (image_refused name fault) seven did = did
stands_early A bench out (image_misplaced fault) seven did = did
stands_early A bench out (flm_refused fault) seven did = did
stands_early A bench out (other_device base size) seven did = did
stands_early A bench out (no_room need have) seven did = did
stands_early A bench out (board_refused fault) seven did = did
stands_early A bench out job_open seven did = seven
stands_early A bench out no_job seven did = seven
stands_early A bench out (not_a_job at) seven did = seven
stands_early A bench out (damaged kept found) seven did = seven
stands_early A bench out (cells_differ wanted found) seven did = seven
stands_early A bench out r seven did = tt

module _ (tells told : Bool) (b : BenchState) (o : SinkState) (inputs : InputsCall) where
  plain_counts : (answer : Answer) → NoneFailed inputs → fault_in answer ≡ None
      → AreCounted (bench_call tells b b) inputs (sink_call told o o) answer
  plain_counts answer same none = record {
    inputs_count = unraised inputs.before.faults inputs.after.faults input answer same.faults (no_fault answer input none);
    store_count = unraised b.store_faults b.store_faults store answer refl (no_fault answer store none);
    device_count = unraised b.device_faults b.device_faults device answer refl (no_fault answer device none);
    out_count = unraised o.faults o.faults output answer refl (no_fault answer output none);
  }

  -- a refusal that is no fault, before any work
  pub plain_lawful : (scope : Scope) (has : Refusal → Bool) (names : List (List ℕ)) (r : Refusal)
      → AtSeven scope (bench_call tells b b) (sink_call told o o) → has r ≡ true → NoneFailed inputs
      → fault_in (refused r) ≡ None → EndsLawfully scope (bench_call tells b b) inputs (sink_call told o o) has names (refused r)
  plain_lawful scope has names r seven kind same none = record {
    kind = kind;
    counts = plain_counts (refused r) same none;
    stands = stands_early scope (bench_call tells b b) (sink_call told o o) r seven (did_nothing tells told b o);
    untaken = λ name is. absurd (no_fault (refused r) input none (ap fault_in is));
    none_failed = λ told no. same.failed told;
  }

  -- a file that couldn't be taken
  pub untaken_lawful : (scope : Scope) (has : Refusal → Bool) (names : List (List ℕ)) (r : Refusal)
      → AtSeven scope (bench_call tells b b) (sink_call told o o) → has out_of_memory ≡ true → ((name : List ℕ) → has (input_fault name) ≡ true)
      → IsTakeFault inputs names r → EndsLawfully scope (bench_call tells b b) inputs (sink_call told o o) has names (refused r)
  untaken_lawful scope has names out_of_memory seven memory fault is = plain_lawful scope has names out_of_memory seven memory is refl
  untaken_lawful scope has names (input_fault name) seven memory fault is = record {
    kind = fault name;
    counts = record {
      inputs_count = record { later = is.0; only = λ its. is.1; answered = λ more. refl };
      store_count = unraised b.store_faults b.store_faults store (refused (input_fault name)) refl (λ its. let same : input ≡ store = cc in cc);
      device_count = unraised b.device_faults b.device_faults device (refused (input_fault name)) refl (λ its. let same : input ≡ device = cc in cc);
      out_count = unraised o.faults o.faults output (refused (input_fault name)) refl (λ its. let same : input ≡ output = cc in cc);
    };
    stands = did_nothing tells told b o;
    untaken = λ other same. let name_is : name ≡ other = cc in subst (λ (n : List ℕ). IsUntaken inputs names n) name_is is.2;
    none_failed = λ told no. absurd (no refl);
  }
  untaken_lawful scope has names r seven memory fault is = absurd is

-- the file that was taken is the one with this name
pub one_file : (inputs : InputsCall) (name bytes other : List ℕ) → IsTrue inputs.tells → inputs.before.stands name ≡ Some bytes
    → IsFile inputs name other → other ≡ bytes
one_file inputs name bytes other told stands file = let its = file told in cc

-- if nothing was taken, no take failed
pub took_none : (inputs : InputsCall) → TakesNothing inputs → NoneFailed inputs
took_none inputs takes = record { faults = takes.faults; failed = λ told. takes.failed }
