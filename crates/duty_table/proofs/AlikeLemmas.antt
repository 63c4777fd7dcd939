-- Registers that are equal but for the address, and states that say no more than others.
use Rattle.std.proofs.Common.{◌≡◌, ◌<◌, ◌≤◌, ⊎_elim, ℕ, Bool, true, false, List, length, get_or, refl, sym, ap, subst, ◌∙◌, arith}
use Rattle.std.proofs.lemmas.Bool.{cases_lt}
use Rattle.std.proofs.lemmas.List.{get_or_past}
use Rattle.flash_layout.specs.declared.lock.Lock.{Lock}
use Rattle.flash_layout.specs.declared.lock.Lock.TheVariants as lock
use Rattle.flash_controller.specs.declared.state.State.{State as Fc1State}
use Rattle.fpec_controller.specs.declared.state.State.{State as FpecState}
use Rattle.target_core.specs.declared.unit.AnyRegisters.{AnyRegisters}
use Rattle.target_core.specs.declared.unit.AnyRegisters.TheVariants.{Fc1, Fpec}
use Rattle.duty_proofs.specs.TargetMarks.{Alike, with_address}
use Rattle.duty_runs.specs.declared.between.Between.{Between}
use Rattle.duty_table.specs.Alike.{AreAlike, FitsAt, SaysNoMore, SaysNoMoreOf, address_in, lock_number}

locks_same : (a b : Lock) → lock_number a ≡ lock_number b → a ≡ b
locks_same lock.Locked lock.Locked e = refl
locks_same lock.FirstKey lock.FirstKey e = refl
locks_same lock.Unlocked lock.Unlocked e = refl
locks_same lock.Barred lock.Barred e = refl
locks_same lock.Locked lock.FirstKey e = absurd (omega (arith, e))
locks_same lock.Locked lock.Unlocked e = absurd (omega (arith, e))
locks_same lock.Locked lock.Barred e = absurd (omega (arith, e))
locks_same lock.FirstKey lock.Locked e = absurd (omega (arith, e))
locks_same lock.FirstKey lock.Unlocked e = absurd (omega (arith, e))
locks_same lock.FirstKey lock.Barred e = absurd (omega (arith, e))
locks_same lock.Unlocked lock.Locked e = absurd (omega (arith, e))
locks_same lock.Unlocked lock.FirstKey e = absurd (omega (arith, e))
locks_same lock.Unlocked lock.Barred e = absurd (omega (arith, e))
locks_same lock.Barred lock.Locked e = absurd (omega (arith, e))
locks_same lock.Barred lock.FirstKey e = absurd (omega (arith, e))
locks_same lock.Barred lock.Unlocked e = absurd (omega (arith, e))

pub fpec_same : (a b : FpecState) → lock_number a.lock ≡ lock_number b.lock → a.programs ≡ b.programs → a.erases_sector ≡ b.erases_sector
    → a.erases_all ≡ b.erases_all → a.program_error ≡ b.program_error → a.ended ≡ b.ended → a.access_control ≡ b.access_control
    → b ≡ record a { address = b.address }
fpec_same a b lock programs sector all error ended access =
    let same : a.lock ≡ b.lock = locks_same a.lock b.lock lock in
    rw (same, programs, sector, all, error, ended, access) refl

pub fc1_same : (a b : Fc1State) → lock_number a.lock ≡ lock_number b.lock → a.done ≡ b.done → a.sequence ≡ b.sequence → a.range ≡ b.range
    → a.not_empty ≡ b.not_empty → a.command ≡ b.command → b ≡ record a { address = b.address }
fc1_same a b lock done sequence range not_empty command =
    let same : a.lock ≡ b.lock = locks_same a.lock b.lock lock in
    rw (same, done, sequence, range, not_empty, command) refl

readdressed : (r : AnyRegisters) (x y : ℕ) → with_address (with_address r x) y ≡ with_address r y
readdressed (Fc1 r) x y = refl
readdressed (Fpec r) x y = refl

own_address : (r : AnyRegisters) → r ≡ with_address r (address_in r)
own_address (Fc1 r) = refl
own_address (Fpec r) = refl

-- registers that a state allows are also allowed by a state of like registers whose address isn't known
loosely : (known : Bool) (own its r : AnyRegisters) → AreAlike own its → Alike known own r → Alike false its r
loosely true own its r are fits = (
  address_in own,
  fits ∙ own_address own ∙ sym (readdressed own (address_in its) (address_in own)) ∙ sym (ap (λ (q : AnyRegisters). with_address q (address_in own)) are),
)
loosely false own its r are fits = (
  fits.0,
  fits.1 ∙ sym (readdressed own (address_in its) fits.0) ∙ sym (ap (λ (q : AnyRegisters). with_address q fits.0) are),
)

exactly : (own its r : AnyRegisters) → AreAlike own its → address_in own ≡ address_in its → Alike true own r → Alike true its r
exactly own its r are same fits = fits ∙ own_address own ∙ ap (with_address own) same ∙ sym are

pub no_more_loose : (one other : Between) → AreAlike one.state.registers other.state.registers → other.address ≡ false → SaysNoMoreOf one other
no_more_loose one other are e = record {
  each = λ r fits. subst (λ (x : Bool). Alike x other.state.registers r) (sym e) (loosely one.address one.state.registers other.state.registers r are fits);
}

pub no_more_exact : (one other : Between) → AreAlike one.state.registers other.state.registers → other.address ≡ true
    → (one.address ≡ true) × (address_in one.state.registers ≡ address_in other.state.registers) → SaysNoMoreOf one other
no_more_exact one other are e same = record {
  each = λ r fits. subst (λ (x : Bool). Alike x other.state.registers r) (sym e)
      (exactly one.state.registers other.state.registers r are same.1 (subst (λ (x : Bool). Alike x one.state.registers r) same.0 fits));
}

-- ---- the RAM

true_within : (l : List Bool) (k : ℕ) → get_or l k false ≡ true → k < length l
true_within l k is = ⊎_elim
    (λ (below : k < length l). below)
    (λ (past : length l ≤ k). let no : get_or l k false ≡ false = get_or_past l k false past in absurd cc)
    (cases_lt k (length l))

pub no_more : (one other : Between) → length one.ram.items ≡ length other.ram.items → SaysNoMoreOf one other
    → ((k : ℕ) → k < length one.ram.items → FitsAt one other k) → SaysNoMore one other
no_more one other long registers all = record {
  long = sym long;
  ram = λ k is. all k (omega (arith, true_within other.known.items k is, other.long, long)) is;
  registers = registers;
}
