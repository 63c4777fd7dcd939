-- Powers of two that fit 32 bits.
use Rattle.std.proofs.Common.{◌≡◌, ℕ, zero, suc, ◌-◌, ◌*◌, ◌<◌, ◌^◌, arith}
use Rattle.std.proofs.Math.Nat.{pow-succ'}
use Rattle.std.proofs.Math.Pow.{pow-lt}

pub power_fits : (k : ℕ) → k < 32 → 2 ^ k < 2 ^ 32
power_fits k h = pow-lt h

pub power_doubles : (k : ℕ) → 0 < k → 2 ^ k ≡ 2 * 2 ^ (k - 1)
power_doubles zero h = omega arith
power_doubles (suc k) h =
    let e : suc k - 1 ≡ k = omega arith in
    rw e (pow-succ' 2 k)

pub ruleset powers = (power_fits, power_doubles)
