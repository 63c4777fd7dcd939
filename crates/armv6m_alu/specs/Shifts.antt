-- The shifts and the rotation of a 32-bit number by any amount, each with its carry. Armv6-M Architecture Reference Manual, A2.2.1 Integer
-- arithmetic, LSL_C(), LSR_C(), ASR_C() and ROR_C(), and Shift_C() of A6.4.3: by the amount 0 the value and the carry stay.
use Rattle.std.specs.Prelude.{ℕ, ◌-◌, ◌*◌, ◌/◌, ◌%◌, ◌^◌, Bool, false, nat_eq, nat_lt, if◌then◌else◌}
use Rattle.std.specs.Int.{w32, cast_signed, cast_unsigned, int_shr, rotate_right}
use Rattle.armv6m_alu.specs.declared.Shifted.{Shifted}
use Rattle.armv6m_alu.specs.Bits.{is_bit_set}

abbrev pub shifted : ℕ → Bool → Shifted
shifted value carry = record { value = value; carry = carry }

-- the four columns of the table of shifts: the amounts 0, 1 to 31, 32, and above 32
abbrev pub by_amount : ℕ → Shifted → Shifted → Shifted → Shifted → Shifted
by_amount amount at_zero within at_width above =
    if nat_eq amount 0 then at_zero else
    if nat_lt amount 32 then within else
    if nat_eq amount 32 then at_width else above

unfoldable pub shifted_left : ℕ → ℕ → Bool → Shifted
shifted_left value amount carry =
    by_amount amount
    (shifted value carry)
    (shifted (value * 2 ^ amount % 2 ^ 32) (is_bit_set value (32 - amount)))
    (shifted 0 (is_bit_set value 0))
    (shifted 0 false)

unfoldable pub shifted_right : ℕ → ℕ → Bool → Shifted
shifted_right value amount carry =
    by_amount amount
    (shifted value carry)
    (shifted (value / 2 ^ amount) (is_bit_set value (amount - 1)))
    (shifted 0 (is_bit_set value 31))
    (shifted 0 false)

-- the sign bit of a number in all 32 bits
abbrev pub sign_fill : ℕ → ℕ
sign_fill value = if is_bit_set value 31 then 2 ^ 32 - 1 else 0

unfoldable pub shifted_right_signed : ℕ → ℕ → Bool → Shifted
shifted_right_signed value amount carry =
    by_amount amount
    (shifted value carry)
    (shifted (cast_unsigned w32 (int_shr (cast_signed w32 value) amount)) (is_bit_set value (amount - 1)))
    (shifted (sign_fill value) (is_bit_set value 31))
    (shifted (sign_fill value) (is_bit_set value 31))

-- std's `rotate_right w32` is the manual's rotation by the amount modulo 32: the number shifted right, with the bits shifted out as its top
-- bits
unfoldable pub rotated_right : ℕ → ℕ → Bool → Shifted
rotated_right value amount carry =
    if nat_eq amount 0 then shifted value carry else
    shifted (rotate_right w32 value amount) (is_bit_set (rotate_right w32 value amount) 31)
