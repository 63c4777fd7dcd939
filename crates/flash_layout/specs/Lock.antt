-- The two keys that unlock a controller, and the bits of its registers.
use Rattle.std.specs.Prelude.{ℕ, Bool, true, false, ◌&&◌, nat_eq, if◌then◌else◌, ◌/◌, ◌%◌}
use Rattle.flash_layout.specs.declared.lock.Lock.{Lock}
use Rattle.flash_layout.specs.declared.lock.Lock.TheVariants as lock

abbrev pub is_unlocked : Lock → Bool
is_unlocked lock.Unlocked = true
is_unlocked _ = false

-- the lock after a store to the key register: the two keys in order unlock it, and any other value bars it
abbrev pub next_lock : Lock → ℕ → Lock
next_lock lock.Locked value = if nat_eq value 0x45670123 then lock.FirstKey else lock.Barred
next_lock lock.FirstKey value = if nat_eq value 0xCDEF89AB then lock.Unlocked else lock.Barred
next_lock _ value = lock.Barred

-- what a flag adds to a register: its bit if the flag is set
abbrev pub flag_value : Bool → ℕ → ℕ
flag_value set bit = if set then bit else 0

-- a flag after a store: it is cleared where its bit is set in the stored value
abbrev pub kept : Bool → ℕ → ℕ → Bool
kept flag bit value = flag && nat_eq (value / bit % 2) 0
