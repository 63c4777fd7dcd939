-- What every layout keeps.
use Rattle.std.specs.Prelude.{◌≡◌, ◌≤◌, ◌+◌, ◌%◌, ◌^◌, ℕ}
use Rattle.algo_loader.specs.declared.layout.Layout.{Layout}

-- The parts follow one another in a RAM that lies in the address space. `zero_end` is the end of the zeroed data, in bytes from the code's
-- start.
pub record IsLaidOut (zero_end page ram_base ram_size : ℕ) (layout : Layout) : Type 0 where
  pub base : layout.return_at ≡ ram_base
  pub code : layout.code_at ≡ layout.return_at + 32
  pub buffer : layout.code_at + zero_end ≤ layout.buffer_at
  pub ends : layout.buffer_at + page ≤ layout.return_at + ram_size
  pub in_memory : layout.return_at + ram_size ≤ 2 ^ 32

-- The buffer and the stack are as long as asked and end inside the RAM. The buffer and the stack's end are at multiples of eight, as the
-- AAPCS requires of the stack at a call.
pub record HasStack (page stack ram_base ram_size : ℕ) (layout : Layout) : Type 0 where
  pub room : layout.buffer_at + page + stack ≤ ram_base + layout.need
  pub within : layout.need ≤ ram_size
  pub top : layout.stack_top ≡ (ram_base + layout.need) % 2 ^ 32
  pub buffer : layout.buffer_at % 8 ≡ 0
  pub aligned : layout.stack_top % 8 ≡ 0
