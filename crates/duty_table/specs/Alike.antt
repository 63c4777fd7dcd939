-- When one state between calls says no more than another: every target that the first allows is one that the second allows.
use Rattle.std.specs.Prelude.{◌≡◌, ℕ, true, false, List, length, get_or, slice_get, slice_index, Some}
use Rattle.flash_layout.specs.declared.lock.Lock.{Lock}
use Rattle.flash_layout.specs.declared.lock.Lock.TheVariants as lock
use Rattle.target_core.specs.declared.unit.AnyRegisters.{AnyRegisters}
use Rattle.target_core.specs.declared.unit.AnyRegisters.TheVariants.{Fc1, Fpec}
use Rattle.duty_proofs.specs.TargetMarks.{Alike, with_address}
use Rattle.duty_runs.specs.declared.between.Between.{Between}

-- the number of a controller's lock: each state of the lock has a number of its own
abbrev pub lock_number : Lock → ℕ
lock_number lock.Locked = 0
lock_number lock.FirstKey = 1
lock_number lock.Unlocked = 2
lock_number lock.Barred = 3

-- the value of the address register of either controller
abbrev pub address_in : AnyRegisters → ℕ
address_in (Fc1 r) = r.address
address_in (Fpec r) = r.address

-- two sets of registers that are equal in everything but the address register, which may differ
abbrev pub AreAlike : AnyRegisters → AnyRegisters → Type 0
AreAlike r r' = r' ≡ with_address r (address_in r')

-- Every set of registers that the first state allows, the second state allows too. A state allows its own registers, with any
-- address where its address isn't known.
pub record SaysNoMoreOf (one other : Between) : Type 0 where
  pub each : (r : AnyRegisters) → Alike one.address one.state.registers r → Alike other.address other.state.registers r

-- Where the second state knows byte `k` of the RAM, the first state knows this byte too, and the bytes are equal.
abbrev pub FitsAt : Between → Between → ℕ → Type 0
FitsAt one other k = get_or other.known.items k false ≡ true
    → (get_or one.known.items k false ≡ true) × (slice_index one.ram.items k ≡ slice_index other.ram.items k)

-- The second state allows all that the first allows: their RAMs are equally long, the second knows no byte that the first doesn't know
-- or has another value for, and it allows the registers of the first.
pub record SaysNoMore (one other : Between) : Type 0 where
  pub long : length other.ram.items ≡ length one.ram.items
  pub ram : (k : ℕ) → FitsAt one other k
  pub registers : SaysNoMoreOf one other

-- one of the states says no more than the state `left`
pub record FitsOne (left : Between) (states : List Between) : Type 0 where
  pub at : ℕ
  pub state : Between
  pub is : slice_get states at ≡ Some state
  pub fits : SaysNoMore left state
