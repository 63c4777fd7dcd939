-- Numbers of 32 bits in addresses and operands.
use Rattle.std.specs.Prelude.{ℕ, ◌+◌, ◌-◌, ◌%◌, ◌^◌}

abbrev pub sum : ℕ → ℕ → ℕ
sum x y = (x + y) % 2 ^ 32

abbrev pub difference : ℕ → ℕ → ℕ
difference x y = (x + (2 ^ 32 - y)) % 2 ^ 32
