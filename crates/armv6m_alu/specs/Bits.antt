-- Single bits of a number, and the extension of a signed number to 32 bits.
use Rattle.std.specs.Prelude.{ℕ, ◌+◌, ◌-◌, ◌/◌, ◌%◌, ◌^◌, Bool, nat_eq, nat_le, if◌then◌else◌}

-- whether bit k of n is 1
abbrev pub is_bit_set : ℕ → ℕ → Bool
is_bit_set n k = nat_eq (n / 2 ^ k % 2) 1

-- a number of `bits` bits, the highest of them the sign, extended to 32 bits: the manual's SignExtend()
abbrev pub sign_extended : ℕ → ℕ → ℕ
sign_extended bits n = if nat_le (2 ^ (bits - 1)) n then n + (2 ^ 32 - 2 ^ bits) else n
