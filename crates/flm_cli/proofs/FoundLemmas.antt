-- The end of a comparison, as an answer of a command.
use Rattle.std.proofs.Common.{◌≡◌, ap, refl, inl, inr, ℕ, Bool, true, false, IsTrue, List, Some}
use Rattle.bench_model.specs.State.{BenchState, cells_half}
use Rattle.bench_model.proofs.Moments.{adds_nothing_here, file_stays_here, cells_stay_here}
use Rattle.outside_io.specs.State.{SinkState}
use Rattle.report_text.specs.Refusal.{Refusal, store_fault, device_fault, output_fault, differs}
use Rattle.command_files.specs.Inputs.{InputsCall, NoneFailed}
use Rattle.command_files.specs.Call.{BenchCall, SinkCall, Answer, done, refused, bench_call, sink_call}
use Rattle.command_files.specs.Answered.{input, store, device, output, fault_in, yields, StandsEarly, IsOf, EndsLawfully, on_files}
use Rattle.command_files.proofs.AnswerLemmas.{unraised, never_store}
use Rattle.flm_cli.specs.Comparison.{ComparisonLeaves, Found, Compares, IsCompared, IsDue}

-- whether a refusal comes before the comparison
abbrev pub is_early : Refusal → Bool
is_early device_fault = false
is_early output_fault = false
is_early (differs at wanted found) = false
is_early r = true

module _ (tells told : Bool) (b : BenchState) (o : SinkState) where
  pub leaves_early : (r : Refusal) → is_early r ≡ true → ComparisonLeaves (bench_call tells b b) (sink_call told o o) (refused r)
  leaves_early device_fault is = absurd (cc)
  leaves_early output_fault is = absurd (cc)
  leaves_early (differs at wanted found) is = absurd (cc)
  leaves_early r is = record {
    prints = record { taken = refl; faults = refl };
    stands = cells_stay_here b;
    file = file_stays_here b;
    count = refl;
    stops = adds_nothing_here (cells_half b);
  }

-- The end of a comparison.

pub found_cases : (Agrees : Type 0) (Differs : ℕ → ℕ → ℕ → Type 0) (P : Answer → Type 0) → P done → P (refused device_fault) → P (refused output_fault)
    → ((at wanted found : ℕ) → P (refused (differs at wanted found))) → (answer : Answer) → Found Agrees Differs answer → P answer
found_cases A D P d e o x done found = d
found_cases A D P d e o x (refused device_fault) found = e
found_cases A D P d e o x (refused output_fault) found = o
found_cases A D P d e o x (refused (differs at wanted byte)) found = x at wanted byte
found_cases A D P d e o x (refused r) found = absurd found

never_input : (Agrees : Type 0) (Differs : ℕ → ℕ → ℕ → Type 0) (answer : Answer) → Found Agrees Differs answer → fault_in answer ≡ Some input → ⊥
never_input A D answer found = found_cases A D (λ a. fault_in a ≡ Some input → ⊥) (λ is. cc) (λ is. let same : device ≡ input = cc in cc)
    (λ is. let same : output ≡ input = cc in cc) (λ at wanted byte is. cc) answer found

pub compared_lawful : (bench : BenchCall) (inputs : InputsCall) (out : SinkCall) (has : Refusal → Bool) (names : List (List ℕ)) (Agrees : Type 0)
    (Differs : ℕ → ℕ → ℕ → Type 0) (answer : Answer) → has store_fault ≡ false → IsOf has answer → NoneFailed inputs → Compares bench out Agrees Differs answer
    → EndsLawfully on_files bench inputs out has names answer
compared_lawful bench inputs out has names A D answer none kind same compares = record {
  kind = kind;
  counts = record {
    inputs_count = unraised inputs.before.faults inputs.after.faults input answer same.faults (never_input A D answer compares.found);
    store_count = unraised bench.before.store_faults bench.after.store_faults store answer compares.leaves.file.faults (never_store has none answer kind);
    device_count = compares.device_count;
    out_count = compares.out_count;
  };
  stands = found_cases A D (λ a. StandsEarly on_files bench out a) tt tt tt (λ at wanted byte. tt) answer compares.found;
  untaken = λ name is. absurd (never_input A D answer compares.found (ap fault_in is));
  none_failed = λ told no. same.failed told;
}

-- each answer comes where it is due: the cells don't both agree and differ, and there is one first difference
pub is_due : (bench : BenchCall) (Agrees : Type 0) (Differs : ℕ → ℕ → ℕ → Type 0)
    → (IsTrue bench.tells → (at wanted found : ℕ) → Agrees → Differs at wanted found → ⊥)
    → (IsTrue bench.tells → (p w f q x g : ℕ) → Differs p w f → Differs q x g → differs p w f ≡ differs q x g)
    → (answer : Answer) → Found Agrees Differs answer → IsDue bench Agrees Differs answer
is_due bench A D both once done found = record {
  different = λ at wanted byte told is. absurd (both told at wanted byte found is);
  same = λ told is. inl refl;
  complete = tt;
}
is_due bench A D both once (refused device_fault) found = record {
  different = λ at wanted byte told is. inr refl;
  same = λ told is. inr refl;
  complete = refl;
}
is_due bench A D both once (refused output_fault) found = record {
  different = λ at wanted byte told is. inr refl;
  same = λ told is. inr refl;
  complete = refl;
}
is_due bench A D both once (refused (differs p w f)) found = record {
  different = λ at wanted byte told is. inl (ap refused (once told p w f at wanted byte found is));
  same = λ told is. absurd (both told p w f is found);
  complete = tt;
}
is_due bench A D both once (refused r) found = absurd found

-- an answer that yields may always come
pub due_yielding : (bench : BenchCall) (Agrees : Type 0) (Differs : ℕ → ℕ → ℕ → Type 0) (answer : Answer) → yields answer ≡ true → IsCompared answer
    → IsDue bench Agrees Differs answer
due_yielding bench A D answer yields complete = record {
  different = λ at wanted byte told is. inr yields;
  same = λ told is. inr yields;
  complete = complete;
}
