-- What a run shows, for the lines that a demonstration returns.
use Rattle.std.proofs.Common.{◌≡◌, ◌∙◌, refl, sym, ap, ℕ, Bool, true, false, List, [], None, Result, Ok, Err}
use Rattle.std.specs.Prelude.{IsTrue, ◌↔◌, nat_eq, IfOk}
use Rattle.std.specs.Cmp.Lexicographic.{pointwise, same_text, other_text}
use Rattle.std.proofs.lemmas.Bool.{false≢true}
use Rattle.bench_model.specs.Loss.{IsAtRest}
use Rattle.bench_model.specs.Shown.{Memory, shown, bench_of, made_bench}
use Rattle.bench_model.specs.declared.memory.MemoryBench.{MemoryBench}
use Rattle.command_files.specs.Inputs.{InputsCall, inputs_call, TakesNothing}
use Rattle.demo_job.specs.Made.{cells_of}
use Rattle.demo_job.specs.Run.{IsFresh}

-- a test of two lists of bytes is true exactly if they are equal
pub bytes_same : (xs ys : List ℕ) (r : Bool) → r ≡ pointwise nat_eq xs ys → IsTrue r ↔ (xs ≡ ys)
bytes_same xs ys true is = ((λ told. same_text xs ys is), (λ same. refl))
bytes_same xs ys false is = ((λ told. absurd (false≢true told)), (λ same. absurd (other_text xs ys is same)))

-- a test for equal lists also decides whether lists equal to these are equal
pub same_as : {r : Bool} {xs ys us vs : List ℕ} → IsTrue r ↔ (xs ≡ ys) → xs ≡ us → ys ≡ vs → IsTrue r ↔ (us ≡ vs)
same_as either left right = ((λ told. sym left ∙ either.0 told ∙ right), (λ same. either.1 (left ∙ same ∙ sym right)))

-- inputs that nothing is taken from
pub no_inputs : InputsCall
no_inputs = inputs_call false (record { faults = 0; failed = []; stands = λ name. None }) (record { faults = 0; failed = []; stands = λ name. None })

pub takes_none : TakesNothing no_inputs
unfolding no_inputs
takes_none = record { stands = λ name. refl; faults = refl; failed = refl }

-- a bench as it is made is fresh
pub fresh_of : (seed : ℕ) (bench : MemoryBench) {cells file : List ℕ} {file_room call_room : ℕ} {store_fails device_fails garbage : List ℕ}
    → shown bench ≡ made_bench cells file file_room call_room store_fails device_fails garbage → cells ≡ cells_of seed → file ≡ [] → IsAtRest (bench_of bench)
    → IsFresh seed (bench_of bench)
fresh_of seed bench made cells_are none rest = record {
  cells = ap (λ (m : Memory). m.cells) made ∙ cells_are;
  file = ap (λ (m : Memory). m.file) made ∙ none;
  rest = rest;
  store = ap (λ (m : Memory). m.store.faults) made;
  device = ap (λ (m : Memory). m.device.faults) made;
}

pub if_ok : {T E : Type 0} (P Q : T → Type 0) (r : Result T E) → ((x : T) → P x → Q x) → IfOk r P → IfOk r Q
if_ok P Q (Ok x) step has = step x has
if_ok P Q (Err e) step has = tt
