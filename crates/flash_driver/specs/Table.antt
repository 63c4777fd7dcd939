-- The table of a controller: what its registers do. From it follow the answer of each access, what it leaves, and what a tick leaves. No
-- access changes a cell: it opens an operation, which a tick settles.
use Rattle.std.specs.Prelude.{◌≡◌, ◌<◌, ◌≤◌, ◌+◌, ℕ, Bool, true, false, not, ◌&&◌, ◌||◌, if◌then◌else◌, List, [], Option, Some, None, is_some, Result, Ok, Err}
use Rattle.bench_model.specs.declared.bench_fault.BusEnd.{BusEnd}
use Rattle.bench_model.specs.declared.bench_fault.BusEnd.TheVariants as bus
use Rattle.board_file.specs.declared.kind.ControllerKind.{ControllerKind}
use Rattle.flash_layout.specs.declared.area.Area.{Area}
use Rattle.flash_layout.specs.declared.area.Found.{Found}
use Rattle.flash_layout.specs.declared.work.Operation.{Operation}
use Rattle.flash_layout.specs.Cells.{value_of, cells_at}
use Rattle.flash_layout.specs.Maps.{FlashMap, in_quiet}
use Rattle.flash_layout.specs.Work.{work_len, tick_at}
use Rattle.flash_driver.specs.declared.place.Place.{Place}
use Rattle.flash_driver.specs.declared.place.Place.TheVariants as place
use Rattle.flash_driver.specs.declared.state.State.{State}
use Rattle.flash_driver.specs.declared.state.Effect.{Effect}
use Rattle.flash_driver.specs.declared.state.Effect.TheVariants as effect
use Rattle.flash_driver.specs.Places.{place_of}

-- What the registers of one kind of controller do.
pub record Table (R : Type 0) : Type 0 where
  -- the number of bytes of the register block, on a board of a kind
  pub block : ControllerKind → ℕ
  -- the registers after a reset, on a board of a kind
  pub fresh : ControllerKind → R
  -- what the register at an offset answers to a load while an operation runs or none does; none where there is no register
  pub load : R → Option Operation → ℕ → Option ℕ
  -- what a store of a value to the register at an offset does, and the registers after it
  pub store : FlashMap → R → Option Operation → ℕ → ℕ → Effect × R
  -- whether a store of a width and a value to a cell of an area looks at the cells there, when no operation runs
  pub looks : R → Area → ℕ → ℕ → Bool
  -- what such a store does, and the registers after it; it is given the cells there, or none if it doesn't look
  pub program : FlashMap → R → Found → ℕ → ℕ → List ℕ → Effect × R
  -- the registers after the end of an operation
  pub ended : R → R

-- a map with the block of a table's registers
abbrev pub with_block : {R : Type 0} → Table R → FlashMap → FlashMap
with_block t map = record map { block = t.block map.kind }

-- an operation has at least one cell and lies among the cells
abbrev pub MayRun : ℕ → Operation → Type 0
MayRun cells o = (0 < work_len o.work) × (o.place + work_len o.work ≤ cells)

-- an operation is begun only if none runs
abbrev pub MayBegin : ℕ → Option Operation → Effect → Type 0
MayBegin cells runs (effect.Begins o) = (runs ≡ None) × MayRun cells o
MayBegin cells runs _ = Unit {0}

abbrev pub is_running : {R : Type 0} → State R → Bool
is_running s = is_some s.operation

-- the state after a reset, on a board of a kind: no operation runs
abbrev pub fresh : {R : Type 0} → Table R → ControllerKind → State R
fresh t kind = record { registers = t.fresh kind; operation = None }

-- ---- the rows

-- what a load answers; it leaves the state as it was
abbrev pub answered : Option ℕ → Result ℕ BusEnd
answered None = Err bus.Fault
answered (Some value) = Ok value

abbrev pub load_at : {R : Type 0} → Table R → State R → List ℕ → ℕ → Place → Result ℕ BusEnd
load_at t s cells width (place.Register offset) = answered (t.load s.registers s.operation offset)
load_at t s cells width (place.Flash found) = if is_running s then Err bus.Fault else Ok (value_of (cells_at cells found.place width))
load_at t s cells width place.Nowhere = Err bus.Fault

-- what a store answers, and the state after it
abbrev pub Stored : Type 0 → Type 0
Stored R = Result (Unit {0}) BusEnd × State R

abbrev pub answer_of : Effect → Result (Unit {0}) BusEnd
answer_of effect.Fault = Err bus.Fault
answer_of _ = Ok tt

abbrev pub begun : Option Operation → Effect → Option Operation
begun runs (effect.Begins o) = Some o
begun runs _ = runs

abbrev pub leaves : {R : Type 0} → State R → Effect × R → Stored R
leaves s done = (answer_of done.0, record { registers = done.1; operation = begun s.operation done.0 })

-- the cells that a store is given: those at its place if it looks at them, else none
abbrev pub seen : Bool → List ℕ → ℕ → ℕ → List ℕ
seen looks cells at width = if looks then cells_at cells at width else []

abbrev pub programmed : {R : Type 0} → Table R → FlashMap → State R → List ℕ → ℕ → ℕ → Found → Stored R
programmed t map s cells width value found =
    leaves s (t.program map s.registers found width value (seen (t.looks s.registers found.area width value) cells found.place width))

abbrev pub store_at : {R : Type 0} → Table R → FlashMap → State R → List ℕ → ℕ → ℕ → Place → Stored R
store_at t map s cells width value (place.Register offset) = leaves s (t.store map s.registers s.operation offset value)
store_at t map s cells width value (place.Flash found) = if is_running s then (Err bus.Fault, s) else programmed t map s cells width value found
store_at t map s cells width value place.Nowhere = (Err bus.Fault, s)

unfoldable pub load_row : {R : Type 0} → Table R → FlashMap → State R → List ℕ → ℕ → ℕ → Result ℕ BusEnd
load_row t map s cells at width = load_at t s cells width (place_of map at width)

unfoldable pub store_row : {R : Type 0} → Table R → FlashMap → State R → List ℕ → ℕ → ℕ → ℕ → Stored R
store_row t map s cells at width value = store_at t map s cells width value (place_of map at width)

-- a load at this place looks at cells
abbrev pub reads : {R : Type 0} → State R → Place → Bool
reads s (place.Flash found) = not (is_running s)
reads s _ = false

-- a store at this place looks at cells
abbrev pub compares : {R : Type 0} → Table R → State R → ℕ → ℕ → Place → Bool
compares t s width value (place.Flash found) = not (is_running s) && t.looks s.registers found.area width value
compares t s width value _ = false

-- this effect begins an operation
abbrev pub begins : Effect → Bool
begins (effect.Begins o) = true
begins _ = false

-- a store at this place, without a look at cells, opens an operation
abbrev pub opens : {R : Type 0} → Table R → FlashMap → State R → ℕ → ℕ → Place → Bool
opens t map s width value (place.Register offset) = begins (t.store map s.registers s.operation offset value).0
opens t map s width value (place.Flash found) = not (is_running s) && begins (t.program map s.registers found width value []).0
opens t map s width value place.Nowhere = false

-- a store at this place asks the device
abbrev pub asks : {R : Type 0} → Table R → FlashMap → State R → ℕ → ℕ → Place → Bool
asks t map s width value p = compares t s width value p || opens t map s width value p

-- Outside the RAM: an access answers what its row says. In a quiet range where the row answers a fault, a load gives 0 and a store does
-- nothing.

abbrev pub or_quiet : {A : Type 0} → A → Bool → Result A BusEnd → Result A BusEnd
or_quiet nothing true (Err bus.Fault) = Ok nothing
or_quiet nothing _ answer = answer

abbrev pub bus_load : {R : Type 0} → Table R → FlashMap → State R → List ℕ → ℕ → ℕ → Result ℕ BusEnd
bus_load t map s cells at width = or_quiet 0 (in_quiet map.quiet at) (load_row t map s cells at width)

abbrev pub bus_store : {R : Type 0} → Table R → FlashMap → State R → List ℕ → ℕ → ℕ → ℕ → Stored R
bus_store t map s cells at width value =
    (or_quiet tt (in_quiet map.quiet at) (store_row t map s cells at width value).0, (store_row t map s cells at width value).1)

-- ---- the tick

-- the state after the end of an operation
abbrev pub done : {R : Type 0} → Table R → State R → State R
done t s = record { registers = t.ended s.registers; operation = None }

abbrev pub running : {R : Type 0} → State R → Operation → State R
running s o = record s { operation = Some o }

abbrev pub tick_on : {R : Type 0} → Table R → State R → List ℕ → Option Operation → State R × List ℕ
tick_on t s cells None = (s, cells)
tick_on t s cells (Some o) = tick_at (done t s) (running s) cells o o.ticks

-- the state and the cells after a tick
unfoldable pub tick_row : {R : Type 0} → Table R → State R → List ℕ → State R × List ℕ
tick_row t s cells = tick_on t s cells s.operation
