-- A right shift by an immediate, as a shift by all bits but one and a shift by one.
use Rattle.std.proofs.Common.{◌≡◌, ℕ, zero, suc, ◌+◌, ◌/◌, ◌%◌, ◌^◌, ◌<◌, Bool, sym, ap, arith}
use Rattle.std.proofs.lemmas.Bool.Decides.{nat_tests}
use Rattle.std.proofs.Math.Pow.{shr-shr}
use Rattle.armv6m_alu.specs.Bits.{is_bit_set}
use Rattle.armv6m_alu.specs.Shifts.{shifted, shifted_right}
use Rattle.armv6m_step.specs.DataRows.{shift_amount}

-- a right shift by all bits but one, then by one, is the whole shift
pub right : (v i : ℕ) (carry : Bool) → v < 2 ^ 32 → i < 32 →
    shifted (v / 2 ^ ((i + 31) % 32) / 2) (is_bit_set v ((i + 31) % 32)) ≡ shifted_right v (shift_amount i) carry
unfolding shifted_right
right v zero carry small few = ap (λ (n : ℕ). shifted n (is_bit_set v 31)) (omega (arith, small))
right v (suc k) carry small few =
    let rest : (suc k + 31) % 32 ≡ k = omega (arith, few) in
    let one : v / 2 ^ k / 2 ≡ v / 2 ^ suc k = (let next : k + 1 ≡ suc k = omega arith in rw (sym next) (shr-shr v k 1)) in
    rw rest (rw one (grind (arith, nat_tests, few)))
