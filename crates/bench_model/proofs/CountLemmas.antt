-- Counts of faults that follow each other.
use Rattle.std.proofs.Common.{◌≡◌, ◌≤◌, ℕ, Bool, true, false, subst, arith}
use Rattle.faults.specs.Counts.{Rose}
use Rattle.bench_model.specs.Counted.{IsCounted}

-- a count after two calls, the first of them without a fault
pub counted_then : (a b c : ℕ) (first then' : Bool) → first ≡ false → IsCounted a b first → IsCounted b c then' → IsCounted a c then'
counted_then a b c first then' still one two = subst (λ (n : ℕ). IsCounted n c then') (one.on_other still) two

pub none_counted : (before now : ℕ) → now ≡ before → IsCounted before now false
none_counted before now same = record { later = omega (arith, same); on_fault = λ e. cc; on_other = λ e. same }

pub one_counted : (before now : ℕ) → before ≤ now → Rose before now → IsCounted before now true
one_counted before now later rose = record { later = later; on_fault = λ e. rose; on_other = λ e. cc }
