-- The table of the controller FPEC: what its registers answer, and what stores do to them. `fpec_table` gives the rows of
-- `flash_driver/specs/Table`.
use Rattle.std.specs.Prelude.{ℕ, Bool, true, false, not, ◌&&◌, ◌||◌, nat_eq, if◌then◌else◌, ◌+◌, ◌/◌, ◌%◌, List, Option, Some, None, is_some}
use Rattle.flash_layout.specs.declared.area.Found.{Found}
use Rattle.flash_layout.specs.declared.lock.Lock.TheVariants as lock
use Rattle.flash_layout.specs.declared.work.Work.{Work}
use Rattle.flash_layout.specs.declared.work.Work.TheVariants as work
use Rattle.flash_layout.specs.declared.work.Operation.{Operation}
use Rattle.flash_layout.specs.Lock.{is_unlocked, next_lock, flag_value, kept}
use Rattle.flash_layout.specs.Maps.{FlashMap}
use Rattle.flash_driver.specs.declared.state.Effect.{Effect}
use Rattle.flash_driver.specs.declared.state.Effect.TheVariants as effect
use Rattle.flash_driver.specs.Erasures.{all_are, erases_sector, erases_first, becomes, begins_or}
use Rattle.flash_driver.specs.Table.{Table}
use Rattle.fpec_controller.specs.declared.state.State.{State}

-- The registers after a reset: locked, with no bit and no flag set.
abbrev pub after_reset : State
after_reset = record {
  lock = lock.Locked;
  programs = false;
  erases_sector = false;
  erases_all = false;
  program_error = false;
  ended = false;
  access_control = 0;
  address = 0;
}

-- ---- the registers

-- the operation erases its cells
abbrev pub is_fill : Work → Bool
is_fill (work.Fill len value) = true
is_fill _ = false

abbrev pub is_erasure : Option Operation → Bool
is_erasure None = false
is_erasure (Some o) = is_fill o.work

-- SR: bit 0 an operation runs, 2 PGERR, 5 EOP
abbrev pub status : State → Option Operation → ℕ
status s runs = flag_value (is_some runs) 1 + flag_value s.program_error 4 + flag_value s.ended 32

-- CR: bit 0 PG, 1 PER, 2 MER, 6 an erasure runs, 7 not unlocked
abbrev pub control : State → Option Operation → ℕ
control s runs = flag_value s.programs 1 + flag_value s.erases_sector 2 + flag_value s.erases_all 4 + flag_value (is_erasure runs) 64
    + flag_value (not (is_unlocked s.lock)) 128

abbrev pub access_control_stored : State → ℕ → State
access_control_stored s value = record s { access_control = value }

abbrev pub key_stored : State → ℕ → State
key_stored s value = record s { lock = next_lock s.lock value }

abbrev pub status_stored : State → ℕ → State
status_stored s value = record s {
  program_error = kept s.program_error 4 value;
  ended = kept s.ended 32 value;
}

-- a store to AR: the address is taken unless an operation runs
abbrev pub address_stored : State → Option Operation → ℕ → State
address_stored s runs value = if is_some runs then s else record s { address = value }

-- an erasure starts: PER alone erases the sector of AR if AR lies in the flash, MER alone erases the first area; neither or both erase
-- nothing
unfoldable pub started : FlashMap → State → Effect × State
started map s =
    if s.erases_sector && not s.erases_all then begins_or (erases_sector map s.address) s s
    else if s.erases_all && not s.erases_sector then begins_or (erases_first map) s s
    else becomes s

abbrev pub has_bit : ℕ → ℕ → Bool
has_bit value bit = nat_eq (value / bit % 2) 1

-- PG, PER and MER of the stored value
abbrev pub with_bits : State → ℕ → State
with_bits s value = record s { programs = has_bit value 1; erases_sector = has_bit value 2; erases_all = has_bit value 4 }

-- A store to CR. Nothing changes while the controller is locked or an operation runs. Otherwise PG, PER and MER are taken; bit 7 locks, and
-- else bit 6 starts an erasure.
unfoldable pub control_stored : FlashMap → State → Option Operation → ℕ → Effect × State
control_stored map s runs value =
    if not (is_unlocked s.lock) || is_some runs then becomes s
    else if has_bit value 128 then becomes (record (with_bits s value) { lock = lock.Locked })
    else if has_bit value 64 then started map (with_bits s value)
    else becomes (with_bits s value)

-- what the register at an offset of the block answers to a load: ACR, KEYR, OPTKEYR, SR, CR, AR, OBR, WRPR
unfoldable pub load : State → Option Operation → ℕ → Option ℕ
load s runs offset =
    if nat_eq offset 0x00 then Some s.access_control else if nat_eq offset 0x04 then Some 0 else if nat_eq offset 0x08 then Some 0
    else if nat_eq offset 0x0C then Some (status s runs) else if nat_eq offset 0x10 then Some (control s runs)
    else if nat_eq offset 0x14 then Some s.address else if nat_eq offset 0x1C then Some 0 else if nat_eq offset 0x20 then Some 0xFFFFFFFF else None

-- what a store to the register at an offset does
unfoldable pub store : FlashMap → State → Option Operation → ℕ → ℕ → Effect × State
store map s runs offset value =
    if nat_eq offset 0x00 then becomes (access_control_stored s value) else if nat_eq offset 0x04 then becomes (key_stored s value)
    else if nat_eq offset 0x08 then becomes s else if nat_eq offset 0x0C then becomes (status_stored s value)
    else if nat_eq offset 0x10 then control_stored map s runs value else if nat_eq offset 0x14 then becomes (address_stored s runs value)
    else if nat_eq offset 0x1C then becomes s else if nat_eq offset 0x20 then becomes s else (effect.Fault, s)

-- ---- the flash

abbrev pub may_program : State → Bool
may_program s = is_unlocked s.lock && s.programs

-- the low halfword of a value
abbrev pub half_of : ℕ → ℕ
half_of value = value % 0x10000

-- A store to the flash. Only halfwords are taken. PG programs an erased halfword, and 0 over any halfword. Any other value over a used
-- halfword sets PGERR.
unfoldable pub program : FlashMap → State → Found → ℕ → ℕ → List ℕ → Effect × State
program map s found width value seen =
    if not (nat_eq width 2) then (effect.Fault, s)
    else if not (may_program s) then becomes s
    else if nat_eq (half_of value) 0 || all_are 0xFF seen then
    (effect.Begins (record { work = work.Half value; place = found.place; ticks = map.program_ticks }), s)
    else becomes (record s { program_error = true })

-- a store looks at the cells if it is a halfword other than 0 and PG may program
abbrev pub looks : State → ℕ → ℕ → Bool
looks s width value = nat_eq width 2 && may_program s && not (nat_eq (half_of value) 0)

-- the registers after the end of an operation: EOP is set
abbrev pub done : State → State
done s = record s { ended = true }

abbrev pub fpec_table : Table State
fpec_table = record {
  block = λ kind. 64;
  fresh = λ kind. after_reset;
  load = load;
  store = store;
  looks = λ s area width value. looks s width value;
  program = program;
  ended = done;
}
