-- No row of a table is a device fault, so a load ends with one only if it looks at cells. Also the rows, by the place of an access.
use Rattle.std.proofs.Common.{◌≡◌, ℕ, Bool, true, false, if◌then◌else◌, List, [], Option, Some, None, Result, Ok, Err, refl, sym, ap, ◌∙◌}
use Rattle.std.proofs.Common.{◌≤◌, ◌+◌, ◌%◌, ◌⊎◌, ⊎_elim, inr, subst, not, ◌&&◌, is_some, arith}
use Rattle.std.proofs.lemmas.Bool.{false≢true}
use Rattle.bench_model.specs.declared.bench_fault.BusEnd.{BusEnd}
use Rattle.bench_model.specs.declared.bench_fault.BusEnd.TheVariants as bus
use Rattle.bench_model.specs.Device.{is_device}
use Rattle.flash_layout.specs.declared.area.Area.{Area}
use Rattle.flash_layout.specs.declared.area.Found.{Found}
use Rattle.flash_layout.specs.declared.flash_map.FlashMap as code
use Rattle.flash_layout.specs.declared.work.Operation.{Operation}
use Rattle.flash_layout.specs.Areas.{cells_in, FoundInside}
use Rattle.flash_layout.specs.Bench.{IsWidth}
use Rattle.flash_layout.specs.Cells.{cells_at, value_of}
use Rattle.flash_layout.specs.Maps.{FlashMap, in_quiet}
use Rattle.flash_layout.specs.Work.{range_of}
use Rattle.flash_driver.specs.declared.driver.Driver.{Driver}
use Rattle.flash_driver.specs.declared.place.Place.{Place}
use Rattle.flash_driver.specs.declared.place.Place.TheVariants as place
use Rattle.flash_driver.specs.declared.state.Effect.{Effect}
use Rattle.flash_driver.specs.declared.state.Effect.TheVariants as effect
use Rattle.flash_driver.specs.declared.state.State.{State}
use Rattle.flash_driver.specs.Places.{place_of}
use Rattle.flash_driver.specs.Table.{Table, Stored, answered, answer_of, is_running, load_at, load_row, programmed, reads, seen, store_at, store_row, or_quiet}
use Rattle.flash_driver.specs.Table.{bus_load, bus_store, compares, leaves}
use Rattle.flash_driver.specs.Calls.{LoadGives, StoreGives}

answered_fine : (o : Option ℕ) → is_device (answered o) ≡ false
answered_fine None = refl
answered_fine (Some v) = refl

effect_fine : (e : Effect) → is_device (answer_of e) ≡ false
effect_fine effect.Fault = refl
effect_fine effect.Taken = refl
effect_fine (effect.Begins o) = refl

flash_load : (b : Bool) (v : ℕ) → is_device (if b then Err bus.Fault else Ok v) ≡ false
flash_load true v = refl
flash_load false v = refl

flash_store : {R : Type 0} (b : Bool) (s : State R) (good : Stored R) → is_device good.0 ≡ false → is_device (if b then (Err bus.Fault, s) else good).0 ≡ false
flash_store true s good fine = refl
flash_store false s good fine = fine

load_fine : {R : Type 0} (t : Table R) (s : State R) (cells : List ℕ) (width : ℕ) (p : Place) → is_device (load_at t s cells width p) ≡ false
load_fine t s cells width (place.Register offset) = answered_fine (t.load s.registers s.operation offset)
load_fine t s cells width (place.Flash found) = flash_load (is_running s) (value_of (cells_at cells found.place width))
load_fine t s cells width place.Nowhere = refl

store_fine : {R : Type 0} (t : Table R) (map : FlashMap) (s : State R) (cells : List ℕ) (width value : ℕ) (p : Place) →
    is_device (store_at t map s cells width value p).0 ≡ false
store_fine t map s cells width value (place.Register offset) = effect_fine (t.store map s.registers s.operation offset value).0
store_fine t map s cells width value (place.Flash found) = flash_store (is_running s) s (programmed t map s cells width value found)
    (effect_fine (t.program map s.registers found width value (seen (t.looks s.registers found.area width value) cells found.place width)).0)
store_fine t map s cells width value place.Nowhere = refl

quiet_fine : {A : Type 0} (nothing : A) (quiet : Bool) (answer : Result A BusEnd) → is_device answer ≡ false → is_device (or_quiet nothing quiet answer) ≡ false
quiet_fine nothing true (Ok done) fine = refl
quiet_fine nothing true (Err bus.Fault) fine = refl
quiet_fine nothing true (Err bus.Device) fine = fine
quiet_fine nothing false answer fine = fine

load_row_fine : {R : Type 0} (t : Table R) (map : FlashMap) (s : State R) (cells : List ℕ) (at width : ℕ) → is_device (load_row t map s cells at width) ≡ false
unfolding load_row
load_row_fine t map s cells at width = load_fine t s cells width (place_of map at width)

store_row_fine : {R : Type 0} (t : Table R) (map : FlashMap) (s : State R) (cells : List ℕ) (at width value : ℕ) →
    is_device (store_row t map s cells at width value).0 ≡ false
unfolding store_row
store_row_fine t map s cells at width value = store_fine t map s cells width value (place_of map at width)

pub bus_load_fine : {R : Type 0} (t : Table R) (map : FlashMap) (s : State R) (cells : List ℕ) (at width : ℕ) →
    is_device (bus_load t map s cells at width) ≡ false
bus_load_fine t map s cells at width = quiet_fine 0 (in_quiet map.quiet at) _ (load_row_fine t map s cells at width)

pub bus_store_fine : {R : Type 0} (t : Table R) (map : FlashMap) (s : State R) (cells : List ℕ) (at width value : ℕ) →
    is_device (bus_store t map s cells at width value).0 ≡ false
bus_store_fine t map s cells at width value = quiet_fine tt (in_quiet map.quiet at) _ (store_row_fine t map s cells at width value)

-- an answer that is the row unless cells are looked at: if it is a device fault, cells were looked at
looked : (looks : Bool) (row result : Result ℕ BusEnd) → is_device row ≡ false → (looks ≡ false → result ≡ row) → is_device result ≡ true → looks ≡ true
looked true row result fine elsewhere fault = refl
looked false row result fine elsewhere fault = absurd (false≢true (sym fine ∙ sym (ap is_device (elsewhere refl)) ∙ fault))

pub load_asks : {R : Type 0} (t : Table R) (map : FlashMap) (s : State R) (at width : ℕ) (result : Result ℕ BusEnd)
    → (reads s (place_of map at width) ≡ false → result ≡ load_row t map s [] at width) → is_device result ≡ true → reads s (place_of map at width) ≡ true
load_asks t map s at width result elsewhere fault = looked (reads s (place_of map at width)) (load_row t map s [] at width) result
    (load_row_fine t map s [] at width) elsewhere fault

-- an operation that doesn't run has no range
pub idle_range : (o : Option Operation) → is_some o ≡ false → range_of o ≡ None
idle_range None idle = refl
idle_range (Some o) idle = absurd (false≢true (sym idle))

-- an access to a cell that was found lies among the cells
pub found_fits : (areas : List Area) (at width : ℕ) (f : Found) → IsWidth width → at % width ≡ 0 → FoundInside areas at f → f.place + width ≤ cells_in areas
found_fits areas at width f is aligned inside = ⊎_elim
    (λ (one : width ≡ 1). omega (arith, one, inside.byte))
    (λ (more : (width ≡ 2) ⊎ (width ≡ 4)). ⊎_elim
    (λ (two : width ≡ 2). omega (arith, two, inside.half (ap (λ (n : ℕ). at % n) (sym two) ∙ aligned)))
    (λ (four : width ≡ 4). omega (arith, four, inside.word (ap (λ (n : ℕ). at % n) (sym four) ∙ aligned)))
    more)
    is

-- The rows, by what the place is.

module _ {R : Type 0} (t : Table R) (map : FlashMap) (s : State R) (cells : List ℕ) (at width : ℕ) where
  pub cell_load : (found : Found) (result : Result ℕ BusEnd) → place.Flash found ≡ place_of map at width → is_running s ≡ false →
      LoadGives (Ok (value_of (cells_at cells found.place width))) result → LoadGives (load_row t map s cells at width) result
  unfolding load_row
  cell_load found result is idle gives = subst (λ (p : Place). LoadGives (load_at t s cells width p) result) is
      (subst (λ (b : Bool). LoadGives (if b then Err bus.Fault else Ok (value_of (cells_at cells found.place width))) result) (sym idle) gives)

  pub cell_store : (value : ℕ) (found : Found) (result : Result (Unit {0}) BusEnd) (after : State R) → place.Flash found ≡ place_of map at width →
      is_running s ≡ false → StoreGives (programmed t map s cells width value found) s result after →
      StoreGives (store_row t map s cells at width value) s result after
  unfolding store_row
  cell_store value found result after is idle gives = subst (λ (p : Place). StoreGives (store_at t map s cells width value p) s result after) is
      (subst (λ (b : Bool). StoreGives (if b then (Err bus.Fault, s) else programmed t map s cells width value found) s result after) (sym idle) gives)

  -- while an operation runs, no cell answers
  pub busy_load : (found : Found) → place.Flash found ≡ place_of map at width → is_running s ≡ true →
      LoadGives (load_row t map s cells at width) (Err bus.Fault)
  unfolding load_row
  busy_load found is busy = subst (λ (p : Place). LoadGives (load_at t s cells width p) (Err bus.Fault)) is
      (subst (λ (b : Bool). LoadGives (if b then Err bus.Fault else Ok (value_of (cells_at cells found.place width))) (Err bus.Fault)) (sym busy) (inr refl))

  pub busy_store : (value : ℕ) (found : Found) → place.Flash found ≡ place_of map at width → is_running s ≡ true →
      StoreGives (store_row t map s cells at width value) s (Err bus.Fault) s
  unfolding store_row
  busy_store value found is busy = subst (λ (p : Place). StoreGives (store_at t map s cells width value p) s (Err bus.Fault) s) is
      (subst (λ (b : Bool). StoreGives (if b then (Err bus.Fault, s) else programmed t map s cells width value found) s (Err bus.Fault) s) (sym busy)
      (inr (refl, refl)))

  -- a store that doesn't compare looks at no cell
  pub unseen : (value : ℕ) (found : Found) → place.Flash found ≡ place_of map at width → is_running s ≡ false →
      compares t s width value (place_of map at width) ≡ false → t.looks s.registers found.area width value ≡ false
  unseen value found is idle none =
      ap (λ (b : Bool). not b && t.looks s.registers found.area width value) (sym idle) ∙ ap (λ (p : Place). compares t s width value p) is ∙ none

  pub register_store : (value offset : ℕ) (done : Effect × R) (result : Result (Unit {0}) BusEnd) (after : State R) →
      place.Register offset ≡ place_of map at width → done ≡ t.store map s.registers s.operation offset value → StoreGives (leaves s done) s result after →
      StoreGives (store_row t map s cells at width value) s result after
  unfolding store_row
  register_store value offset done result after is row gives = subst (λ (p : Place). StoreGives (store_at t map s cells width value p) s result after) is
      (subst (λ (x : Effect × R). StoreGives (leaves s x) s result after) row gives)

-- a store to a cell that looks at no cell
pub blind_store : {R : Type 0} (t : Table R) (map : FlashMap) (s : State R) (cells : List ℕ) (width value : ℕ) (found : Found) (done : Effect × R)
    (result : Result (Unit {0}) BusEnd) (after : State R) → t.looks s.registers found.area width value ≡ false →
    done ≡ t.program map s.registers found width value [] → StoreGives (leaves s done) s result after →
    StoreGives (programmed t map s cells width value found) s result after
blind_store {R} t map s cells width value found done result after blind row gives =
    subst (λ (b : Bool). StoreGives (leaves s (t.program map s.registers found width value (seen b cells found.place width))) s result after) (sym blind)
    (subst (λ (x : Effect × R). StoreGives (leaves s x) s result after) row gives)

-- In a quiet range.

pub quiet_in : (a b : code.FlashMap) (at : ℕ) (q : Bool) → a ≡ b → q ≡ in_quiet a.quiet.items at → in_quiet b.quiet.items at ≡ q
quiet_in a b at q same is = ap (λ (l : code.FlashMap). in_quiet l.quiet.items at) (sym same) ∙ sym is

pub layout_same : {R : Type 0} (a b : Driver R) → a ≡ b → a.layout ≡ b.layout
layout_same {R} a b same = ap (λ (d : Driver R). d.layout) same

pub loud_load : (quiet : Bool) (row result : Result ℕ BusEnd) → quiet ≡ false → LoadGives row result → LoadGives (or_quiet 0 quiet row) result
loud_load quiet row result loud gives = subst (λ (b : Bool). LoadGives (or_quiet 0 b row) result) (sym loud) gives

pub loud_store : {R : Type 0} (quiet : Bool) (row : Stored R) (s : State R) (result : Result (Unit {0}) BusEnd) (after : State R) → quiet ≡ false →
    StoreGives row s result after → StoreGives (or_quiet tt quiet row.0, row.1) s result after
loud_store quiet row s result after loud gives = subst (λ (b : Bool). StoreGives (or_quiet tt b row.0, row.1) s result after) (sym loud) gives

fault_of : {A : Type 0} (e : BusEnd) → e ≡ bus.Fault → ◌≡◌ {A = Result A BusEnd} (Err e) (Err bus.Device) → ⊥
fault_of {A} e is bad = false≢true (sym (ap (λ (x : BusEnd). is_device {A = A} (Err x)) is) ∙ ap (λ (r : Result A BusEnd). is_device r) bad)

pub quiet_load : (quiet : Bool) (row : Result ℕ BusEnd) (e : BusEnd) → quiet ≡ true → e ≡ bus.Fault → LoadGives row (Err e) →
    LoadGives (or_quiet 0 quiet row) (Ok 0)
quiet_load quiet row e silent is gives = ⊎_elim
    (λ (bad : ◌≡◌ {A = Result ℕ BusEnd} (Err e) (Err bus.Device)). absurd (fault_of e is bad))
    (λ (good : Err e ≡ row). inr (sym (ap (λ (b : Bool). or_quiet 0 b row) silent ∙
    ap (or_quiet 0 true) (sym good ∙ ap (λ (x : BusEnd). let r : Result ℕ BusEnd = Err x in r) is))))
    gives

pub quiet_store : {R : Type 0} (quiet : Bool) (row : Stored R) (s : State R) (e : BusEnd) (after : State R) → quiet ≡ true → e ≡ bus.Fault →
    StoreGives row s (Err e) after → StoreGives (or_quiet tt quiet row.0, row.1) s (Ok tt) after
quiet_store quiet row s e after silent is gives = ⊎_elim
    (λ (bad : (◌≡◌ {A = Result (Unit {0}) BusEnd} (Err e) (Err bus.Device)) × (after ≡ s)). absurd (fault_of e is bad.0))
    (λ (good : (Err e ≡ row.0) × (after ≡ row.1)). inr (
      sym (ap (λ (b : Bool). or_quiet tt b row.0) silent ∙
          ap (or_quiet tt true) (sym good.0 ∙ ap (λ (x : BusEnd). let r : Result (Unit {0}) BusEnd = Err x in r) is)),
      good.1,
    ))
    gives
