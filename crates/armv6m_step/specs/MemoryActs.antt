-- What a bus of bytes in memory does at an access. It has no device, so no access ends by a device fault.
use Rattle.std.specs.Prelude.{◌≡◌, ℕ, false, Option, Some, None, Result, List}
use Rattle.std.proofs.Common.{arith, refl, ap, ◌∙◌}
use Rattle.bench_model.specs.declared.bench_fault.BusEnd.{BusEnd}
use Rattle.bench_model.specs.Device.{is_device}
use Rattle.bench_model.specs.Counted.{IsCounted}
use Rattle.armv6m_step.specs.Access.{Access, Load, Store}
use Rattle.armv6m_step.specs.Ram.{Ram, load_answer, store_answer, loaded_from, stored_in, ram_answer}

pub record memory_acts (before : Ram) (access : Access) (answer : Result ℕ BusEnd) (after : Ram) : Type 0 where
  pub answered : answer ≡ (ram_answer before access).0
  pub left : after ≡ (ram_answer before access).1

load_fails_none : (r : Ram) (value : Option ℕ) → is_device (load_answer r value).0 ≡ false
load_fails_none r None = refl
load_fails_none r (Some v) = refl

store_fails_none : (r : Ram) (bytes : Option (List ℕ)) → is_device (store_answer r bytes).0 ≡ false
store_fails_none r None = refl
store_fails_none r (Some b) = refl

none_fails : (r : Ram) (access : Access) → is_device (ram_answer r access).0 ≡ false
unfolding ram_answer
none_fails r (Load width at) = load_fails_none r (loaded_from r width at)
none_fails r (Store width at v) = store_fails_none r (stored_in r width at v)

-- a bus of bytes in memory counts no faults
pub memory_counted : (before : Ram) (access : Access) (answer : Result ℕ BusEnd) (after : Ram) → memory_acts before access answer after
    → IsCounted 0 0 (is_device answer)
memory_counted before access answer after acts =
    let none : is_device answer ≡ false = ap is_device acts.answered ∙ none_fails before access in
    record { later = omega arith; on_fault = λ at_fault. cc; on_other = λ other. refl }
