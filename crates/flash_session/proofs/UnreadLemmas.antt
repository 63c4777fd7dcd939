-- The fault that was counted by a comparison that could not be made.
use Rattle.std.proofs.Common.{◌≡◌, ℕ, Bool, Option, subst}
use Rattle.bench_model.specs.Counted.{BenchFault, IsCounted}
use Rattle.flash_session.specs.declared.windows.Unread.{Unread}
use Rattle.flash_session.specs.Reads.{unread_fault}

pub unread_counted : (is : Option BenchFault → Bool) (u v : Unread) (before now : ℕ) → u ≡ v → IsCounted before now (is (unread_fault u))
    → IsCounted before now (is (unread_fault v))
unread_counted is u v before now same counted = subst (λ (x : Unread). IsCounted before now (is (unread_fault x))) same counted
