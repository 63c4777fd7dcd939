-- The table of the controller FC1: what its registers answer, and what stores do to them. `fc1_table` gives the rows of
-- `flash_driver/specs/Table`.
use Rattle.std.specs.Prelude.{ℕ, Bool, true, false, not, ◌&&◌, nat_eq, nat_le, if◌then◌else◌, ◌+◌, List, Option, Some, None, is_some}
use Rattle.flash_layout.specs.declared.area.Area.{Area}
use Rattle.flash_layout.specs.declared.area.Found.{Found}
use Rattle.flash_layout.specs.declared.lock.Lock.TheVariants as lock
use Rattle.flash_layout.specs.declared.work.Operation.{Operation}
use Rattle.flash_layout.specs.Lock.{is_unlocked, next_lock, flag_value, kept}
use Rattle.flash_layout.specs.Maps.{FlashMap}
use Rattle.flash_layout.specs.Work.{unit_work}
use Rattle.flash_driver.specs.declared.state.Effect.{Effect}
use Rattle.flash_driver.specs.declared.state.Effect.TheVariants as effect
use Rattle.flash_driver.specs.Erasures.{all_are, erases_sector, erases_first, becomes, begins_or}
use Rattle.flash_driver.specs.Table.{Table}
use Rattle.flash_controller.specs.declared.state.State.{State}

-- The registers after a reset: locked, and no flag set.
abbrev pub after_reset : State
after_reset = record { lock = lock.Locked; done = false; sequence = false; range = false; not_empty = false; command = 0; address = 0 }

-- ---- the registers

-- the controller is unlocked, and no operation runs
abbrev pub is_ready : State → Option Operation → Bool
is_ready s runs = is_unlocked s.lock && not (is_some runs)

-- STATUS: bit 0 an operation runs, 1 DONE, 2 SEQ, 3 RANGE, 4 NOTEMPTY, 5 not unlocked
abbrev pub status : State → Option Operation → ℕ
status s runs = flag_value (is_some runs) 1 + flag_value s.done 2 + flag_value s.sequence 4 + flag_value s.range 8
    + flag_value s.not_empty 16 + flag_value (not (is_unlocked s.lock)) 32

abbrev pub key_stored : State → ℕ → State
key_stored s value = record s { lock = next_lock s.lock value }

abbrev pub status_stored : State → ℕ → State
status_stored s value = record s {
  done = kept s.done 2 value;
  sequence = kept s.sequence 4 value;
  range = kept s.range 8 value;
  not_empty = kept s.not_empty 16 value;
}

abbrev pub with_sequence : State → State
with_sequence s = record s { sequence = true }

abbrev pub command_stored : State → Option Operation → ℕ → State
command_stored s runs value = if is_ready s runs && nat_le value 3 then record s { command = value } else with_sequence s

abbrev pub address_stored : State → Option Operation → ℕ → State
address_stored s runs value = if is_ready s runs then record s { address = value } else with_sequence s

-- a store to START: CMD 2 erases the sector of ADDR, or sets RANGE if ADDR lies outside the flash; CMD 3 erases the first area; all else
-- sets SEQ
unfoldable pub started : FlashMap → State → Option Operation → ℕ → Effect × State
started map s runs value =
    if is_ready s runs && nat_eq value 1 && nat_eq s.command 2 then begins_or (erases_sector map s.address) s (record s { range = true })
    else if is_ready s runs && nat_eq value 1 && nat_eq s.command 3 then begins_or (erases_first map) s (with_sequence s)
    else becomes (with_sequence s)

-- what the register at an offset of the block answers to a load
unfoldable pub load : State → Option Operation → ℕ → Option ℕ
load s runs offset =
    if nat_eq offset 0 then Some 0 else if nat_eq offset 4 then Some (status s runs) else if nat_eq offset 8 then Some s.command
    else if nat_eq offset 12 then Some s.address else if nat_eq offset 16 then Some 0 else None

-- what a store to a register does: KEY, STATUS, CMD, ADDR, START
unfoldable pub store : FlashMap → State → Option Operation → ℕ → ℕ → Effect × State
store map s runs offset value =
    if nat_eq offset 0 then becomes (key_stored s value) else if nat_eq offset 4 then becomes (status_stored s value)
    else if nat_eq offset 8 then becomes (command_stored s runs value) else if nat_eq offset 12 then becomes (address_stored s runs value)
    else if nat_eq offset 16 then started map s runs value else (effect.Fault, s)

-- ---- the flash

abbrev pub may_program : State → Area → ℕ → Bool
may_program s a width = is_unlocked s.lock && nat_eq s.command 1 && nat_eq width a.unit

-- A store to the flash: CMD 1 programs an empty unit. A unit that isn't empty sets NOTEMPTY; any other store sets SEQ.
unfoldable pub program : FlashMap → State → Found → ℕ → ℕ → List ℕ → Effect × State
program map s found width value seen =
    if may_program s found.area width then
    (if all_are found.area.empty seen then (effect.Begins (record { work = unit_work width value; place = found.place; ticks = map.program_ticks }), s)
    else becomes (record s { not_empty = true }))
    else becomes (with_sequence s)

-- the registers after the end of an operation: DONE is set
abbrev pub done : State → State
done s = record s { done = true }

abbrev pub fc1_table : Table State
fc1_table = record {
  block = λ kind. 32;
  fresh = λ kind. after_reset;
  load = load;
  store = store;
  looks = λ s area width value. may_program s area width;
  program = program;
  ended = done;
}
