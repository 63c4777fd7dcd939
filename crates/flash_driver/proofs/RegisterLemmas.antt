-- A register answers a load of its word, whatever the cells are. Also what fresh registers are.
use Rattle.std.proofs.Common.{◌≡◌, ◌<◌, ◌≤◌, ◌+◌, ◌-◌, ℕ, Bool, true, false, List, Option, Some, None, IfSome, Result, Ok, refl, ap, sym, arith, ◌∙◌}
use Rattle.std.proofs.lemmas.Bool.{le-leb, lt-ltb}
use Rattle.bench_model.specs.declared.bench_fault.BusEnd.{BusEnd}
use Rattle.board_file.specs.declared.kind.ControllerKind.{ControllerKind}
use Rattle.flash_layout.specs.Maps.{FlashMap, in_quiet}
use Rattle.flash_driver.specs.declared.place.Place.{Place}
use Rattle.flash_driver.specs.declared.place.Place.TheVariants as place
use Rattle.flash_driver.specs.declared.state.State.{State}
use Rattle.flash_driver.specs.Places.{place_of}
use Rattle.flash_driver.specs.Table.{Table, answered, fresh, load_at, load_row, or_quiet, bus_load}

at_register : (map : FlashMap) (at : ℕ) → map.base ≤ at → at - map.base < map.block → place_of map at 4 ≡ place.Register (at - map.base)
unfolding place_of
at_register map at above below = rw (le-leb _ _ above, lt-ltb _ _ below) refl

taken : (value : ℕ) (quiet : Bool) → ◌≡◌ {A = Result ℕ BusEnd} (or_quiet 0 quiet (Ok value)) (Ok value)
taken value true = refl
taken value false = refl

module _ {R : Type 0} (t : Table R) (map : FlashMap) (s : State R) (at : ℕ) (above : map.base ≤ at) (below : at - map.base < map.block) where
  one_load : (value : ℕ) (cells : List ℕ) → Some value ≡ t.load s.registers s.operation (at - map.base) → bus_load t map s cells at 4 ≡ Ok value
  unfolding load_row
  one_load value cells is =
      ap (λ (p : Place). or_quiet 0 (in_quiet map.quiet at) (load_at t s cells 4 p)) (at_register map at above below)
      ∙ ap (λ (o : Option ℕ). or_quiet 0 (in_quiet map.quiet at) (answered o)) (sym is)
      ∙ taken value (in_quiet map.quiet at)

pub register_peeks : {R : Type 0} (t : Table R) (map : FlashMap) (s : State R) (offset : ℕ) → offset < map.block → (answer : Option ℕ)
    → IfSome answer (λ value. Some value ≡ t.load s.registers s.operation offset)
    → IfSome answer (λ value. (cells : List ℕ) → bus_load t map s cells (map.base + offset) 4 ≡ Ok value)
register_peeks t map s offset within None is = tt
register_peeks t map s offset within (Some value) is =
    let there : offset ≡ map.base + offset - map.base = omega arith in
    λ cells. one_load t map s (map.base + offset) (omega arith) (omega (arith, within)) value cells
    (is ∙ ap (λ (n : ℕ). t.load s.registers s.operation n) there)

-- fresh registers, while no operation runs
pub fresh_is : {R : Type 0} (t : Table R) (kind : ControllerKind) (r : R) → r ≡ t.fresh kind →
    ◌≡◌ {A = State R} (record { registers = r; operation = None }) (fresh t kind)
fresh_is {R} t kind r is = ap (λ (x : R). let s : State R = record { registers = x; operation = None } in s) is
