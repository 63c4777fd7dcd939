-- Counts of faults in calls that follow one another, and of refusals that are no faults of the bench.
use Rattle.std.proofs.Common.{◌≡◌, ℕ, Bool, true, false, Ok, Err, refl, sym, subst, arith}
use Rattle.faults.specs.Counts.{HasCause}
use Rattle.bench_model.specs.Counted.{IsCounted, is_store_fault}
use Rattle.bench_model.proofs.CountLemmas.{counted_then, none_counted, one_counted}
use Rattle.job_text.specs.declared.head.Head.{Head}
use Rattle.job_text.specs.declared.head.Places.{Places}
use Rattle.job_file.specs.declared.fault.ReadFault.{ReadFault}
use Rattle.job_file.specs.declared.fault.ReadFault.TheVariants.{OutOfMemory, StoreFault, NotAJob}
use Rattle.job_file.specs.Counted.{read_fault}
use Rattle.job_file.specs.Readers.{Counts, CountsFiles}

-- a count that stayed, and then a call that is counted
pub counted_behind : {a b c : ℕ} {answered : Bool} → IsCounted a b false → IsCounted b c answered → IsCounted a c answered
counted_behind one two = counted_then _ _ _ false _ refl one two

-- wrong numbers in a head are no fault of the store
pub miscounted : {a b : ℕ} (places : Places) (head : Head) (size : ℕ) (e : ReadFault) → Counts {T = Unit {0}} places head size (Err e) → IsCounted a b false
    → IsCounted a b (is_store_fault (read_fault e))
miscounted places head size OutOfMemory wrong stays = absurd wrong
miscounted places head size StoreFault wrong stays = absurd wrong
miscounted places head size (NotAJob at) wrong stays = stays

-- a wrong number of files is no fault of the store
pub files_miscounted : {a b : ℕ} (places : Places) (head : Head) (regions : ℕ) (e : ReadFault) → CountsFiles {T = Unit {0}} places head regions (Err e)
    → IsCounted a b false → IsCounted a b (is_store_fault (read_fault e))
files_miscounted places head regions OutOfMemory wrong stays = absurd wrong
files_miscounted places head regions StoreFault wrong stays = absurd wrong
files_miscounted places head regions (NotAJob at) wrong stays = stays

-- a count that stayed, with an answer that is no fault
pub none_more : (a b : ℕ) (answered : Bool) → answered ≡ false → IsCounted a b false → IsCounted a b answered
none_more a b answered is stays = subst (λ (x : Bool). IsCounted a b x) (sym is) stays

-- a call that succeeded leaves the count as it was, and a call that failed raises it
pub stayed : {T E : Type 0} {a b : ℕ} {x : T} → HasCause {T = T} {E = E} a b (Ok x) → IsCounted a b false
stayed cause = none_counted _ _ (cause.on_ok refl)

pub caused : {T E : Type 0} {a b : ℕ} {e : E} → HasCause {T = T} {E = E} a b (Err e) → IsCounted a b true
caused cause = one_counted _ _ cause.later (cause.on_fault refl)

-- a call that succeeded, where the count stayed
pub none_caused : {T E : Type 0} (value : T) {a b : ℕ} → b ≡ a → HasCause {T = T} {E = E} a b (Ok value)
none_caused value same = record { later = omega (arith, same); on_fault = λ e. cc; on_ok = λ e. same }
