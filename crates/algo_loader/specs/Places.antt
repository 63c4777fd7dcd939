-- The layout of an algorithm in a board's RAM. The RAM begins with the return point, and the code with its data and zeroed data. The buffer
-- for the bytes of a page follows, and then the stack, which grows down from its end.
use Rattle.std.specs.Prelude.{◌+◌, ◌*◌, ◌/◌, ◌%◌, ◌^◌, ℕ, Bool, nat_le, if◌then◌else◌, Result, Ok, Err}
use Rattle.flm_descriptor.specs.Shown.{Shown as AlgorithmShown}
use Rattle.board_file.specs.Shown.{Shown as BoardShown}
use Rattle.algo_loader.specs.declared.layout.Layout.{Layout}
use Rattle.algo_loader.specs.declared.layout.NoRoom.{NoRoom}

-- a number rounded up to a multiple of eight
abbrev pub round_up : ℕ → ℕ
round_up n = (n + 7) / 8 * 8

-- the distance of the code from the RAM's base, in bytes
abbrev pub code_from : ℕ
code_from = 32

-- the distance of the buffer from the RAM's base; it follows the code, the data and the zeroed data
abbrev pub buffer_from : AlgorithmShown → ℕ
buffer_from a = round_up (code_from + a.zero_at + a.zero_len)

-- the distance of the stack's end from the RAM's base; the stack follows the buffer
abbrev pub need_of : AlgorithmShown → BoardShown → ℕ
need_of a b = buffer_from a + round_up a.device.page + b.stack

-- whether the board's RAM has room for all parts
abbrev pub has_room : AlgorithmShown → BoardShown → Bool
has_room a b = nat_le (need_of a b) b.ram_size

-- the addresses of a layout, modulo 2 ^ 32 where one may be at the end of the address space or after it
abbrev pub layout_of : AlgorithmShown → BoardShown → Layout
layout_of a b = record {
  return_at = b.ram_base;
  code_at = b.ram_base + code_from;
  static_base = (b.ram_base + code_from + a.static_base) % 2 ^ 32;
  buffer_at = b.ram_base + buffer_from a;
  stack_top = (b.ram_base + need_of a b) % 2 ^ 32;
  need = need_of a b;
}

-- the layout if there is room, else the number of bytes needed and the number available
abbrev pub placed : AlgorithmShown → BoardShown → Result Layout NoRoom
placed a b = if has_room a b then Ok (layout_of a b) else Err (record { need = need_of a b; have = b.ram_size })
