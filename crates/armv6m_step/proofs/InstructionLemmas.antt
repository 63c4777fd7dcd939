-- What holds over a whole instruction.
use Rattle.std.proofs.Common.{◌≡◌, ℕ, Bool, true, false, Ok, Err, Result, MatchResult, inl, inr, ◌⊎◌, subst, sym, ap, ◌∙◌, refl, arith}
use Rattle.bench_model.specs.declared.bench_fault.BusEnd.{BusEnd}
use Rattle.bench_model.specs.declared.bench_fault.BusEnd.TheVariants as bus_end
use Rattle.bench_model.specs.Device.{is_device}
use Rattle.bench_model.specs.Counted.{IsCounted}
use Rattle.bench_model.proofs.CountLemmas.{counted_then}
use Rattle.armv6m_step.specs.declared.core_state.Core.{Core}
use Rattle.armv6m_step.specs.declared.ends.StepEnd.{StepEnd}
use Rattle.armv6m_step.specs.declared.ends.StepEnd.TheVariants as end
use Rattle.armv6m_step.specs.Access.{Access}
use Rattle.armv6m_step.specs.Ends.{OwnEnd, Break, Undefined, Unaligned, BadState, Outcome, own_end, access_end, is_device_end}
use Rattle.armv6m_step.specs.Meaning.{Meaning, Gives, Asks, Leaves, Runs}

-- no instruction ends by a device fault of its own
pub own_is_no_device : (own : OwnEnd) → is_device_end (own_end own) ≡ false
own_is_no_device (Break pc) = refl
own_is_no_device (Undefined pc) = refl
own_is_no_device (Unaligned at) = refl
own_is_no_device (BadState pc) = refl

leaves_no_device : (o : Outcome) (core core' : Core) (e : StepEnd) → Leaves o core e core' → is_device_end e ≡ false
leaves_no_device (Ok next) core core' e leaves = ap is_device_end leaves.0
leaves_no_device (Err own) core core' e leaves = ap is_device_end leaves.0 ∙ own_is_no_device own

-- A relation holds of each run if it holds of ends without a device fault and of unanswered accesses, and if an answered access before a run keeps it.
pub runs_carry : {B : Type 0} (acts : B → Access → Result ℕ BusEnd → B → Type 0) (R : B → StepEnd → B → Type 0)
    → ((b : B) (e : StepEnd) → is_device_end e ≡ false → R b e b)
    → ((b b' : B) (access : Access) (x : BusEnd) → acts b access (Err x) b' → R b (access_end access x) b')
    → ((b mid b' : B) (access : Access) (v : ℕ) (e : StepEnd) → acts b access (Ok v) mid → R mid e b' → R b e b')
    → (m : Meaning) (core core' : Core) (b b' : B) (e : StepEnd) → Runs acts m core b e core' b' → R b e b'
unfolding Runs
runs_carry acts R here failed more (Gives o) core core' b b' e runs =
    subst (λ y. R b e y) (sym runs.1) (here b e (leaves_no_device o core core' e runs.0))
runs_carry {B} acts R here failed more (Asks access then') core core' b b' e runs =
    (elim runs.0 as (λ answer. (mid : B) → acts b access answer mid → MatchResult answer (λ v. Runs acts (then' v) core mid e core' b')
    (λ x. (e ≡ access_end access x) × (core' ≡ core) × (b' ≡ mid)) → R b e b') [
      | Ok v ↦ λ mid act rest. more b mid b' access v e act (runs_carry acts R here failed more (then' v) core core' mid b' e rest)
      | Err x ↦ λ mid act rest. subst (λ y. R b e y) (sym rest.2) (subst (λ y. R b y mid) (sym rest.0) (failed b mid access x act))
    ]) runs.1 runs.2 runs.3

not_both : (b : Bool) → b ≡ false → b ≡ true → ⊥
not_both b as_false as_true = cc

pub access_device : (access : Access) (x : BusEnd) → is_device_end (access_end access x) ≡ is_device {A = ℕ} (Err x)
access_device access bus_end.Fault = refl
access_device access bus_end.Device = refl

-- a bus that counts the device faults of its accesses counts the device fault of an instruction
pub runs_counted : {B : Type 0} (acts : B → Access → Result ℕ BusEnd → B → Type 0) (faults : B → ℕ)
    → ((before : B) (access : Access) (answer : Result ℕ BusEnd) (after : B) → acts before access answer after →
    IsCounted (faults before) (faults after) (is_device answer))
    → (m : Meaning) (core core' : Core) (b b' : B) (e : StepEnd) → Runs acts m core b e core' b' → IsCounted (faults b) (faults b') (is_device_end e)
runs_counted {B} acts faults counted =
    runs_carry acts (λ b e b'. IsCounted (faults b) (faults b') (is_device_end e))
    (λ b e none. record { later = omega arith; on_fault = λ at_fault. absurd (not_both (is_device_end e) none at_fault); on_other = λ other. refl })
    (λ b b' access x act. subst (λ f. IsCounted (faults b) (faults b') f) (sym (access_device access x)) (counted b access (Err x) b' act))
    (λ b mid b' access v e act rest. counted_then (faults b) (faults mid) (faults b') false (is_device_end e) refl (counted b access (Ok v) mid act) rest)

outcome_kept : (o : Outcome) (core core' : Core) (e : StepEnd) → Leaves o core e core' → (e ≡ end.Went) ⊎ (core' ≡ core)
outcome_kept (Ok next) core core' e leaves = inl leaves.0
outcome_kept (Err own) core core' e leaves = inr leaves.1

-- an instruction that isn't done leaves the core as it was
pub core_kept : {B : Type 0} (acts : B → Access → Result ℕ BusEnd → B → Type 0) (m : Meaning) (core core' : Core) (b b' : B) (e : StepEnd) →
    Runs acts m core b e core' b' → (e ≡ end.Went) ⊎ (core' ≡ core)
unfolding Runs
core_kept acts (Gives o) core core' b b' e runs = outcome_kept o core core' e runs.0
core_kept {B} acts (Asks access then') core core' b b' e runs =
    (elim runs.0 as (λ answer. (mid : B) → MatchResult answer (λ v. Runs acts (then' v) core mid e core' b')
    (λ x. (e ≡ access_end access x) × (core' ≡ core) × (b' ≡ mid)) → (e ≡ end.Went) ⊎ (core' ≡ core)) [
      | Ok v ↦ λ mid rest. core_kept acts (then' v) core core' mid b' e rest
      | Err x ↦ λ mid rest. inr rest.1
    ]) runs.1 runs.3
