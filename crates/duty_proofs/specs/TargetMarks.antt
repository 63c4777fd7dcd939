-- The marks of a target: of its RAM, of its controller, and of the cells of one place.
use Rattle.std.specs.Prelude.{◌≡◌, ◌≤◌, ◌+◌, ◌-◌, ◌&&◌, ◌||◌, ℕ, Bool, true, false, not, nat_eq, nat_le, if◌then◌else◌, List, [], ◌∷◌, length, slice_index}
use Rattle.std.specs.Prelude.{map, slice_index_or, ◌++◌, take, drop, replicate, suc, zero, Option, Some, None, is_some}
use Rattle.armv6m_step.specs.Ram.{place_of}
use Rattle.flash_layout.specs.declared.work.Work.{Work}
use Rattle.flash_layout.specs.declared.work.Work.TheVariants as work
use Rattle.flash_layout.specs.declared.work.Operation.{Operation}
use Rattle.flash_layout.specs.declared.area.Area.{Area}
use Rattle.flash_layout.specs.declared.area.Found.{Found}
use Rattle.flash_layout.specs.Maps.{FlashMap}
use Rattle.flash_driver.specs.declared.place.Place.{Place}
use Rattle.flash_driver.specs.declared.place.Place.TheVariants as place
use Rattle.flash_driver.specs.declared.state.Effect.{Effect}
use Rattle.flash_driver.specs.declared.state.Effect.TheVariants as effect
use Rattle.flash_driver.specs.Places.{place_of as device_place}
use Rattle.flash_driver.specs.Table.{begun, done, running}
use Rattle.flash_layout.specs.Work.{work_len, unit_work}
use Rattle.flash_controller.specs.declared.state.State.{State as Fc1State}
use Rattle.flash_controller.specs.Table.{is_ready, may_program as fc1_may_program}
use Rattle.fpec_controller.specs.Table.{has_bit, may_program}
use Rattle.target_core.specs.declared.unit.AnyRegisters.{AnyRegisters}
use Rattle.target_core.specs.declared.unit.AnyRegisters.TheVariants.{Fc1, Fpec}
use Rattle.target_core.specs.AnyTable.{any_table, any_store}
use Rattle.target_core.specs.Units.{UnitState}
use Rattle.target_core.specs.World.{World}
use Rattle.shadow_step.specs.declared.marks.Mark.{Mark}
use Rattle.shadow_step.specs.declared.marks.Mark.TheVariants.{Known, Any}
use Rattle.shadow_step.specs.Marks.{Pages, Says, is_known}
use Rattle.shadow_step.specs.Bytes.{BytesAgree, number_mark, marks_with, part_of}
use Rattle.shadow_step.specs.Shadow.{Shadow}
use Rattle.duty_proofs.specs.declared.cells.CellMark.{CellMark}
use Rattle.duty_proofs.specs.declared.cells.CellMark.TheVariants.{Blank, Holds}

-- ---- what the marks are

-- The RAM's base and the flash map, which no step changes; the marks of the RAM; the controller of the run at hand, and whether its address
-- register is known; the mark of the number being programmed; and the marks of the cells from a place on.
pub record TargetMarks : Type 0 where
  pub base : ℕ
  pub map : FlashMap
  pub ram : List Mark
  pub state : UnitState
  pub address : Bool
  pub value : Mark
  pub from : ℕ
  pub cells : List CellMark

-- ---- what the marks say

abbrev pub CellSays : Pages → CellMark → ℕ → ℕ → Type 0
CellSays p Blank v v' = (v ≡ 0xFF) × (v' ≡ 0xFF)
CellSays p (Holds m) v v' = Says p m v v'

abbrev pub with_address : AnyRegisters → ℕ → AnyRegisters
with_address (Fc1 r) x = Fc1 (record r { address = x })
with_address (Fpec r) x = Fpec (record r { address = x })

-- two sets of registers are equal, or differ only in the address register
abbrev pub Alike : Bool → AnyRegisters → AnyRegisters → Type 0
Alike true r r' = r' ≡ r
Alike false r r' = (x : ℕ) × (r' ≡ with_address r x)

abbrev pub WorkAgrees : Pages → Mark → Work → Work → Type 0
WorkAgrees p k (work.Half v) (work.Half v') = Says p k v v'
WorkAgrees p k (work.Word v) (work.Word v') = Says p k v v'
WorkAgrees p k (work.Fill len v) (work.Fill len' v') = (len' ≡ len) × (v' ≡ v)
WorkAgrees p k _ _ = ⊥

abbrev pub RunsAgree : Pages → Mark → Option Operation → Option Operation → Type 0
RunsAgree p k None None = Unit {0}
RunsAgree p k (Some o) (Some o') = (o'.place ≡ o.place) × (o'.ticks ≡ o.ticks) × WorkAgrees p k o.work o'.work
RunsAgree p k _ _ = ⊥

pub record CellsAgree (p : Pages) (from : ℕ) (ms : List CellMark) (cells cells' : List ℕ) : Type 0 where
  pub here : from + length ms ≤ length cells
  pub there : length cells' ≡ length cells
  pub says : (k : ℕ) → CellSays p (slice_index_or ms k (Holds Any)) (slice_index cells (from + k)) (slice_index cells' (from + k))

pub record TargetAgrees (p : Pages) (m : TargetMarks) (w w' : World) : Type 0 where
  pub base : w.ram_base ≡ m.base
  pub base' : w'.ram_base ≡ m.base
  pub map : w.map ≡ m.map
  pub map' : w'.map ≡ m.map
  pub ram : BytesAgree p m.ram w.ram w'.ram
  pub state : w.state ≡ m.state
  pub registers : Alike m.address m.state.registers w'.state.registers
  pub runs : RunsAgree p m.value m.state.operation w'.state.operation
  pub cells : CellsAgree p m.from m.cells w.cells w'.cells

-- ---- how the marks change

-- whether an offset is that of the address register: ADDR of FC1, AR of FPEC
abbrev pub is_address : AnyRegisters → ℕ → Bool
is_address (Fc1 r) offset = nat_eq offset 12
is_address (Fpec r) offset = nat_eq offset 0x14

abbrev pub register_mark : TargetMarks → ℕ → Mark
register_mark m offset = if m.address then Known else if is_address m.state.registers offset then Any else Known

abbrev pub byte_of : CellMark → Mark
byte_of Blank = Known
byte_of (Holds m) = m

-- the mark of a number in the cells: Any unless all its cells have marks
abbrev pub cells_mark : TargetMarks → ℕ → ℕ → Mark
cells_mark m width at =
    if nat_le m.from at && (nat_le (at - m.from + width) (length m.cells) && (nat_eq width 1 || (nat_eq width 2 || nat_eq width 4)))
    then number_mark (map byte_of m.cells) width (at - m.from) else Any

-- the mark that a load from the controller or the flash gives; no cell is read while an operation runs
abbrev pub device_load : TargetMarks → ℕ → Place → Mark
device_load m width (place.Register offset) = register_mark m offset
device_load m width (place.Flash found) = if is_some m.state.operation then Known else cells_mark m width found.place
device_load m width place.Nowhere = Known

abbrev pub ram_or : TargetMarks → ℕ → ℕ → Option ℕ → Mark
ram_or m width at (Some i) = number_mark m.ram width i
ram_or m width at None = device_load m width (device_place m.map at width)

abbrev pub is_blank : List CellMark → ℕ → Bool
is_blank ms k = elim (slice_index_or ms k (Holds Any)) [ Blank ↦ true | Holds m ↦ false ]

-- whether the halfword at a place is erased in every run
abbrev pub half_blank : TargetMarks → ℕ → Bool
half_blank m at = nat_le m.from at && (is_blank m.cells (at - m.from) && is_blank m.cells (at - m.from + 1))

abbrev pub value_after : Effect → Mark → Mark
value_after (effect.Begins o) k = Known
value_after _ k = k

-- the marks after a store of a known number to a register, by its effect in the run at hand
abbrev pub registered : TargetMarks → ℕ → ℕ → TargetMarks
registered m offset v =
    let e : Effect × AnyRegisters = any_store m.map m.state.registers m.state.operation offset v in
    record m { state = record { registers = e.1; operation = begun m.state.operation e.0 }; value = value_after e.0 m.value }

-- whether a number in CR starts an erase of the sector in the address register: STRT and PER without MER
abbrev pub starts_sector : ℕ → Bool
starts_sector v = has_bit v 64 && (has_bit v 2 && not (has_bit v 4))

-- a store that doesn't look at the address register of FPEC: to KEYR, SR, and to CR unless it starts a sector erase
abbrev pub spares_address : ℕ → ℕ → Bool
spares_address offset v = (nat_eq offset 0x04 || nat_eq offset 0x0C) || (nat_eq offset 0x10 && not (starts_sector v))

-- a store that doesn't look at the address register of FC1: to KEY, STATUS, CMD, and to START unless CMD is a sector erase
abbrev pub fc1_spares : Fc1State → ℕ → Bool
fc1_spares r offset = (nat_eq offset 0 || nat_eq offset 4) || (nat_eq offset 8 || (nat_eq offset 16 && not (nat_eq r.command 2)))

abbrev pub spares : AnyRegisters → ℕ → ℕ → Bool
spares (Fc1 r) offset v = fc1_spares r offset
spares (Fpec r) offset v = spares_address offset v

-- a store that sets the address register
abbrev pub takes_address : AnyRegisters → Option Operation → ℕ → Bool
takes_address (Fc1 r) runs offset = nat_eq offset 12 && is_ready r runs
takes_address (Fpec r) runs offset = nat_eq offset 0x14 && not (is_some runs)

-- The marks after a store where the address register isn't known. If the store sets that register, it is known after it.
abbrev pub unaddressed : TargetMarks → ℕ → ℕ → Option TargetMarks
unaddressed m offset v =
    if takes_address m.state.registers m.state.operation offset then Some (record (registered m offset v) { address = true })
    else if spares m.state.registers offset v then Some (registered m offset v) else None

-- a store of this width to an area programs erased cells there: a halfword by FPEC, a unit by FC1
abbrev pub programs_unit : AnyRegisters → Area → ℕ → Bool
programs_unit (Fc1 r) area width = (nat_eq width 2 || nat_eq width 4) && (nat_eq area.empty 0xFF && fc1_may_program r area width)
programs_unit (Fpec r) area width = nat_eq width 2 && may_program r

-- whether the two or four bytes at a place are erased in every run
abbrev pub unit_blank : TargetMarks → ℕ → ℕ → Bool
unit_blank m width at = half_blank m at && (nat_eq width 2 || half_blank m (at + 2))

abbrev pub begins_unit : TargetMarks → ℕ → ℕ → Found → Mark → Option Operation → Option TargetMarks
begins_unit m width v found k None =
    if programs_unit m.state.registers found.area width && unit_blank m width found.place then
    Some (record m {
      state = record {
        registers = m.state.registers;
        operation = Some (record { work = unit_work width v; place = found.place; ticks = m.map.program_ticks });
      };
      value = k;
    }) else None
begins_unit m width v found k (Some o) = None

abbrev pub device_store : TargetMarks → ℕ → ℕ → Mark → Place → Option TargetMarks
device_store m width v k (place.Register offset) =
    if is_known k then (if m.address then Some (registered m offset v) else unaddressed m offset v) else None
device_store m width v k (place.Flash found) = begins_unit m width v found k m.state.operation
device_store m width v k place.Nowhere = Some m

abbrev pub ram_or_store : TargetMarks → ℕ → ℕ → ℕ → Mark → Option ℕ → Option TargetMarks
ram_or_store m width at v k (Some i) = Some (record m { ram = marks_with m.ram width i k })
ram_or_store m width at v k None = device_store m width v k (device_place m.map at width)

abbrev pub target_shadow : Shadow TargetMarks
target_shadow = record {
  load = λ m width at. Some (ram_or m width at (place_of m.base (length m.ram) at width));
  store = λ m width at v k. ram_or_store m width at v k (place_of m.base (length m.ram) at width);
}

-- ---- a tick

-- a list with another one written over it from a place on
abbrev pub laid : {A : Type 0} → ℕ → List A → List A → List A
laid at new old = take at old ++ new ++ drop (at + length new) old

-- the marks of the cells that an operation leaves
abbrev pub work_marks : Mark → Work → List CellMark
work_marks k (work.Half v) = Holds (part_of 2 0 k) ∷ Holds (part_of 2 1 k) ∷ []
work_marks k (work.Word v) = Holds (part_of 4 0 k) ∷ Holds (part_of 4 1 k) ∷ Holds (part_of 4 2 k) ∷ Holds (part_of 4 3 k) ∷ []
work_marks k (work.Fill len v) = replicate len (if nat_eq v 0xFF then Blank else Holds Known)

-- whether an operation is within the cells that have marks
abbrev pub lies_there : TargetMarks → Operation → Bool
lies_there m o = nat_le m.from o.place && nat_le (o.place + work_len o.work) (m.from + length m.cells)

-- the marks after an operation's last tick; an operation elsewhere leaves no marks of cells
abbrev pub settled : TargetMarks → Operation → TargetMarks
settled m o = record m {
  state = done any_table m.state;
  value = Known;
  from = if lies_there m o then m.from else 0;
  cells = if lies_there m o then laid (o.place - m.from) (work_marks m.value o.work) m.cells else [];
}

abbrev pub tick_left : TargetMarks → Operation → ℕ → TargetMarks
tick_left m o zero = settled m o
tick_left m o (suc zero) = settled m o
tick_left m o (suc (suc left)) = record m { state = running m.state (record o { ticks = suc left }) }

abbrev pub tick_by : TargetMarks → Option Operation → TargetMarks
tick_by m None = m
tick_by m (Some o) = tick_left m o o.ticks

abbrev pub target_tick : TargetMarks → World → TargetMarks
target_tick m w = tick_by m m.state.operation
