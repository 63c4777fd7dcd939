-- What a call in one of two windows leaves of both.
use Rattle.std.proofs.Common.{◌≡◌, ◌≤◌, ℕ, zero, suc, List, arith}
use Rattle.target_core.specs.Windows.{IsRam, OnlyIn}
use Rattle.target_core.proofs.RamLemmas.{other_ram}
use Rattle.target_vectors.specs.Rams.{AreRams}

one_other : ◌≡◌ {A = ℕ} 1 0 → ⊥
one_other e = omega (arith, e)

other_one : ◌≡◌ {A = ℕ} 0 1 → ⊥
other_one e = omega (arith, e)

no_third : (i : ℕ) → suc (suc i) ≤ 1 → ⊥
no_third i le = omega (arith, le)

pub both_stay : (ws ws' : List (List ℕ)) (i : ℕ) → i ≤ 1 → OnlyIn i ws ws' → IsRam ws' i 256 → AreRams ws → AreRams ws'
both_stay ws ws' zero le only here both = (here, other_ram ws ws' 0 1 256 only one_other both.1)
both_stay ws ws' (suc zero) le only here both = (other_ram ws ws' 1 0 256 only other_one both.0, here)
both_stay ws ws' (suc (suc i)) le only here both = absurd (no_third i le)
