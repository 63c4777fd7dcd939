-- A sum of two 32-bit numbers and a carry, with its carry and overflow, by exact sums. Armv6-M Architecture Reference Manual, A2.2.1
-- Integer arithmetic, AddWithCarry().
use Rattle.std.specs.Prelude.{ℕ, ◌+◌, ◌%◌, ◌^◌, Bool, cond, ◌||◌, ◌&&◌, not, nat_le, ℤ, pos, ◌+ℤ◌, int_lt}
use Rattle.std.specs.Int.{w32, cast_signed}
use Rattle.armv6m_alu.specs.declared.Sum.{Sum}

-- a flag as a number
abbrev pub number_of : Bool → ℕ
number_of flag = cond flag 1 0

-- a 32-bit number read as signed, the manual's SInt()
abbrev pub signed : ℕ → ℤ
signed n = cast_signed w32 n

abbrev pub differ : ℤ → ℤ → Bool
differ x y = int_lt x y || int_lt y x

-- the exact sums of two numbers and a carry: with the numbers read as unsigned, and as signed
abbrev pub unsigned_sum : ℕ → ℕ → Bool → ℕ
unsigned_sum x y carry = x + y + number_of carry

abbrev pub signed_sum : ℕ → ℕ → Bool → ℤ
signed_sum x y carry = signed x +ℤ signed y +ℤ pos (number_of carry)

-- The value is the low 32 bits of the exact sum. The carry is set if the exact unsigned sum is at least 2 ^ 32. The overflow is set if the
-- value read as signed isn't the exact signed sum.
unfoldable pub sum_with_carry : ℕ → ℕ → Bool → Sum
sum_with_carry x y carry =
    record {
      value = unsigned_sum x y carry % 2 ^ 32;
      carry = nat_le (2 ^ 32) (unsigned_sum x y carry);
      overflow = differ (signed_sum x y carry) (signed (unsigned_sum x y carry % 2 ^ 32));
    }

-- the overflow by signs: both terms have one sign, and the sum has the other
abbrev pub is_sign_lost : Bool → Bool → Bool → Bool
is_sign_lost x_sign y_sign sum_sign = cond x_sign (y_sign && not sum_sign) (not y_sign && sum_sign)
