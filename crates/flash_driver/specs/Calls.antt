-- What the calls of a driver answer and leave, by the rows of its table, and what they do to the bench.
use Rattle.std.specs.Prelude.{◌≡◌, ◌⊎◌, ◌-◌, ◌<◌, ℕ, Bool, true, false, Option, Some, Result, Err}
use Rattle.bench_model.specs.State.{BenchState}
use Rattle.bench_model.specs.declared.bench_fault.BusEnd.{BusEnd}
use Rattle.bench_model.specs.declared.bench_fault.BusEnd.TheVariants as bus
use Rattle.flash_layout.specs.declared.flash_map.FlashMap as code
use Rattle.flash_layout.specs.declared.work.Operation.{Operation}
use Rattle.flash_layout.specs.Bench.{Agrees, Touches}
use Rattle.flash_layout.specs.Maps.{map_of}
use Rattle.flash_layout.specs.Work.{range_of}
use Rattle.flash_driver.specs.declared.state.State.{State}
use Rattle.flash_driver.specs.Table.{Stored}

-- a load answers what the row says, or a device fault
abbrev pub LoadGives : Result ℕ BusEnd → Result ℕ BusEnd → Type 0
LoadGives row result = (result ≡ Err bus.Device) ⊎ (result ≡ row)

-- a store answers and leaves what the row says, or it answers a device fault and leaves the state as it was
abbrev pub StoreGives : {R : Type 0} → Stored R → State R → Result (Unit {0}) BusEnd → State R → Type 0
StoreGives row before result after = ((result ≡ Err bus.Device) × (after ≡ before)) ⊎ ((result ≡ row.0) × (after ≡ row.1))

-- the bench has the cells of the map, and its open operation is the one that the driver runs
abbrev pub DriverAgrees : {R : Type 0} → Bool → code.FlashMap → State R → BenchState → Type 0
DriverAgrees tells layout s b = Agrees tells (map_of layout) (range_of s.operation) b

-- what an access that leaves this state does to the bench
abbrev pub DriverTouches : {R A : Type 0} → Bool → code.FlashMap → State R → BenchState → BenchState → Result A BusEnd → Type 0
DriverTouches tells layout s b c result = Touches tells (map_of layout) (range_of s.operation) b c result

-- with `true` an operation has counted down: it had more than one tick left, and now has one less; with `false` it is as before
abbrev pub LowersTo : Option Operation → Option Operation → Bool → Type 0
LowersTo before after true = (o : Operation) × (before ≡ Some o) × (1 < o.ticks) × (after ≡ Some (record o { ticks = o.ticks - 1 }))
LowersTo before after false = after ≡ before
