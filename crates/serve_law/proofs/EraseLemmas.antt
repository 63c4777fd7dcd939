-- EraseSector and EraseChip, by induction on the ticks left.
use Rattle.std.proofs.Common.{◌≡◌, ◌+◌, ◌<◌, ◌≤◌, ◌^◌, ◌%◌, ℕ, zero, suc, Bool, true, false, List, [], ◌∷◌, ◌++◌, length, replicate, Option, Some, None, refl}
use Rattle.std.proofs.Common.{sym, ap, subst, arith}
use Rattle.bench_model.specs.Calls.{written}
use Rattle.armv6m_step.specs.declared.core_state.Core.{Core}
use Rattle.flm_descriptor.specs.Shape.{Range, range}
use Rattle.flash_layout.specs.declared.area.SectorCells.{SectorCells}
use Rattle.flash_layout.specs.Areas.{sector_of}
use Rattle.flash_layout.specs.declared.work.Work.{Work}
use Rattle.flash_layout.specs.declared.work.Work.TheVariants as work
use Rattle.flash_layout.specs.Work.{work_len, work_bytes}
use Rattle.flash_driver.specs.Erasures.{begins_or, erases}
use Rattle.flash_driver.specs.Table.{Stored, leaves, tick_row}
use Rattle.armv6m_step.specs.Functional.{Stepped, outcome}
use Rattle.armv6m_step.specs.Step.{instruction}
use Rattle.target_core.specs.declared.unit.AnyRegisters.{AnyRegisters}
use Rattle.target_core.specs.declared.unit.AnyRegisters.TheVariants.{Fc1}
use Rattle.target_core.specs.AnyTable.{does_as}
use Rattle.target_core.specs.Units.{UnitState, state_op}
use Rattle.armv6m_step.specs.Access.{Access, Load, Store, stored}
use Rattle.target_core.specs.World.{World, Answer, world_tick}
use Rattle.target_core.specs.Path.{Point}
use Rattle.algo_calls.specs.declared.call.Call.TheVariants as a_call
use Rattle.algo_calls.specs.Frames.{Request, asked, first_point, fuel_of}
use Rattle.algo_calls.specs.Duties.{OpensIn}
use Rattle.serve_law.proofs.Ranges.{span}
use Rattle.serve_law.proofs.Computed.{computed, after_in, answer_in, goes_by}
use Rattle.serve_law.proofs.HomeLemmas.{IsHome}
use Rattle.serve_law.proofs.GoesLemmas.{Goes, goes_then, all_idle, idle_goes, run_goes, step_goes, AllIn}
use Rattle.serve_law.proofs.DoneLemmas.{IsDone, run_done}
use Rattle.serve_law.proofs.Setup.{Given, a1_setup, a1_world, a1_area, len_of, regs, resting, unlocked, IsQuick, sector_count, sector_fuel, chip_fuel}
use Rattle.serve_law.proofs.Setup.{need}

abbrev pub running : ℕ → ℕ → Work → ℕ → ℕ → UnitState
running c a w place t = record (unlocked c a) { operation = Some (record { work = w; place = place; ticks = t }) }

abbrev settled : ℕ → ℕ → UnitState
settled c a = resting (record (regs c a) { done = true })

-- the core within the erase functions
abbrev erase_core : Given → ℕ → ℕ → ℕ → Bool → Bool → ℕ → Core
erase_core g r0 r1 r2 n z pc = record {
  regs = r0 ∷ r1 ∷ r2 ∷ 0x40022000 ∷ 0 ∷ 0 ∷ 0 ∷ 0 ∷ 0 ∷ 0x200000B0 ∷ 0 ∷ 0 ∷ 0 ∷ (0x20000000 + need g) % 2 ^ 32 ∷ 0x20000001 ∷ pc ∷ [];
  n = n;
  z = z;
  c = false;
  v = false;
  primask = false;
}

module _ (g : Given) (r : Option (ℕ × ℕ)) (r0 c a place : ℕ) (w : Work) (ram : List ℕ) (home : IsHome 0x20000000 ram)
    (lies : OpensIn r (Some (place, work_len w))) where
  -- the point before the load of the status
  abbrev pub waiting : ℕ → UnitState → List ℕ → Point
  waiting r2 st cells = record { core = erase_core g r0 1 r2 false false 0x20000046; world = a1_world g ram st cells }

  abbrev left : List ℕ → List ℕ
  left cells = written place (work_bytes w) cells

  -- how many steps the wait takes with this number of ticks left, until it sees the status settled
  wait_steps : ℕ → ℕ
  wait_steps zero = 0
  wait_steps (suc (suc (suc (suc t)))) = 3 + wait_steps (suc t)
  wait_steps x = 3

  more_goes : (t r2 : ℕ) (cells : List ℕ) → Goes r 3 (waiting r2 (running c a w place (suc (suc (suc (suc t))))) cells)
      (waiting 1 (running c a w place (suc t)) cells)
  unfolding computed AllIn
  more_goes t r2 cells = run_goes r 3 (waiting r2 (running c a w place (suc (suc (suc (suc t))))) cells) home refl (lies, lies, (lies, lies, (lies, lies, tt)))

  three_goes : (r2 : ℕ) (cells : List ℕ) → Goes r 3 (waiting r2 (running c a w place 3) cells) (waiting 1 (settled c a) (left cells))
  unfolding computed AllIn
  three_goes r2 cells = run_goes r 3 (waiting r2 (running c a w place 3) cells) home refl (lies, lies, (lies, lies, (lies, lies, tt)))

  two_goes : (r2 : ℕ) (cells : List ℕ) → Goes r 3 (waiting r2 (running c a w place 2) cells) (waiting 1 (settled c a) (left cells))
  unfolding computed AllIn
  two_goes r2 cells = run_goes r 3 (waiting r2 (running c a w place 2) cells) home refl (lies, lies, (lies, lies, (tt, tt, tt)))

  one_goes : (r2 : ℕ) (cells : List ℕ) → Goes r 3 (waiting r2 (running c a w place 1) cells) (waiting 1 (settled c a) (left cells))
  unfolding computed AllIn
  one_goes r2 cells = run_goes r 3 (waiting r2 (running c a w place 1) cells) home refl (lies, lies, (tt, tt, (tt, tt, tt)))

  waits : (t r2 : ℕ) (cells : List ℕ) → Goes r (wait_steps (suc t)) (waiting r2 (running c a w place (suc t)) cells) (waiting 1 (settled c a) (left cells))
  unfolding wait_steps
  waits zero r2 cells = one_goes r2 cells
  waits (suc zero) r2 cells = two_goes r2 cells
  waits (suc (suc zero)) r2 cells = three_goes r2 cells
  waits (suc (suc (suc t))) r2 cells = goes_then r 3 (wait_steps (suc t)) _ _ _ (more_goes t r2 cells) (waits t 1 cells)

  wait_bound : (t : ℕ) → wait_steps t ≤ t + 2
  unfolding wait_steps
  wait_bound (suc (suc (suc (suc t)))) = omega (arith, wait_bound (suc t))
  wait_bound t = omega arith

  -- the point of return after the operation is settled
  abbrev returned : List ℕ → Point
  returned cells = record { core = record (erase_core g 0 1 0x1E false true 0x20000000) { c = true }; world = a1_world g ram (unlocked c a) cells }

  ends_goes : (r2 : ℕ) (cells : List ℕ) → Goes r 10 (waiting r2 (settled c a) cells) (returned cells)
  unfolding computed all_idle
  ends_goes r2 cells = idle_goes r 10 (waiting r2 (settled c a) cells) home refl refl

  -- the point after the first tick of an operation of `e` ticks
  abbrev begun : ℕ → ℕ → List ℕ → Point
  begun r2 e cells = record { core = erase_core g r0 1 r2 false false 0x20000046; world = world_tick (a1_world g ram (running c a w place e) cells) }

  erase_steps : ℕ → ℕ
  erase_steps (suc (suc t)) = wait_steps (suc t) + 10
  erase_steps x = 10

  begun_goes : (r2 e : ℕ) (cells : List ℕ) → Goes r (erase_steps e) (begun r2 e cells) (returned (left cells))
  unfolding erase_steps tick_row
  begun_goes r2 (suc (suc t)) cells = goes_then r (wait_steps (suc t)) 10 _ _ _ (waits t r2 cells) (ends_goes 1 (left cells))
  begun_goes r2 e cells = ends_goes r2 (left cells)

  erase_bound : (e : ℕ) → erase_steps e ≤ e + 12
  unfolding erase_steps
  erase_bound (suc (suc t)) = omega (arith, wait_bound (suc t))
  erase_bound e = omega arith

-- EraseSector of a sector of the region
module _ (g : Given) (x : Range) (c a : ℕ) (ram cells : List ℕ) (home : IsHome 0x20000000 (written 176 [] ram)) (quick : IsQuick g)
    (is : sector_of (a1_area g ∷ []) (g.runs ++ []) (0x08000000 + x.start) ≡ Some (record { place = x.start; len = len_of x; empty = g.empty }))
    (ordered : x.start ≤ x.stop) where
  abbrev at : ℕ
  at = 0x08000000 + x.start

  abbrev request : Request
  request = asked (a_call.EraseSector at) []

  abbrev r : Option (ℕ × ℕ)
  r = Some (span x)

  abbrev start : World
  start = a1_world g ram (unlocked c a) cells

  abbrev first : Point
  first = first_point (a1_setup g) start request

  abbrev fill : Work
  fill = work.Fill (len_of x) g.empty

  lies : OpensIn r (Some (x.start, len_of x))
  lies = (omega arith, omega arith)

  five : Goes r 5 first (after_in 5 first)
  unfolding computed first_point all_idle
  five = idle_goes r 5 first home refl refl

  -- the registers after the sixth instruction, from what is at the address
  abbrev ordered_at : Option SectorCells → Stored AnyRegisters
  ordered_at o = leaves (unlocked 2 at) (does_as Fc1 (begins_or (erases g.erase_ticks o) (regs 2 at) (record (regs 2 at) { range = true })))

  -- how the accesses of the sixth instruction are answered
  abbrev answer_at : Option SectorCells → World → Access → Answer
  answer_at o w (Load width from) = answer_in w (Load width from)
  answer_at o w (Store width to v) = (stored (ordered_at o).0, record w { state = (ordered_at o).1 })

  abbrev stepped_at : Option SectorCells → Stepped World
  stepped_at o = outcome (answer_at o) (instruction (after_in 5 first).core) (after_in 5 first).core (after_in 5 first).world

  -- the sixth instruction continues, whatever is at the address
  sixth_goes : (o : Option SectorCells) → goes_by (answer_at o) (after_in 5 first) ≡ true
  unfolding computed first_point
  sixth_goes None = refl
  sixth_goes (Some s) = refl

  sixth : Goes r 1 (after_in 5 first) (begun g r at 2 at x.start fill (written 176 [] ram) home lies 2 g.erase_ticks cells)
  unfolding computed first_point
  sixth = subst (λ (q : Point). Goes r 1 (after_in 5 first) q)
      (ap (λ (o : Option SectorCells). let q : Point = record { core = (stepped_at o).core; world = world_tick (stepped_at o).bus } in q) is)
      (step_goes r (after_in 5 first) home (sixth_goes (sector_of (a1_area g ∷ []) (g.runs ++ []) at)) tt
      (subst (λ (o : Option SectorCells). OpensIn r (state_op (stepped_at o).bus.state)) (sym is) lies))

  abbrev steps : ℕ
  steps = 5 + (1 + erase_steps g r at 2 at x.start fill (written 176 [] ram) home lies g.erase_ticks)

  abbrev end : Point
  end = returned g r at 2 at x.start fill (written 176 [] ram) home lies (written x.start (replicate (len_of x) g.empty) cells)

  runs : Goes r steps first end
  runs = goes_then r 5 _ first (after_in 5 first) end five
      (goes_then r 1 _ (after_in 5 first) _ end sixth (begun_goes g r at 2 at x.start fill (written 176 [] ram) home lies 2 g.erase_ticks cells))

  enough : steps ≤ fuel_of (a1_setup g) (a_call.EraseSector at)
  enough = sector_fuel g at steps
      (omega (arith, quick.sector, erase_bound g r at 2 at x.start fill (written 176 [] ram) home lies g.erase_ticks))
      (omega (arith, quick.sector_small, erase_bound g r at 2 at x.start fill (written 176 [] ram) home lies g.erase_ticks))

  pub sector_done : IsDone (a1_setup g) start request r (a1_world g (written 176 [] ram) (unlocked 2 at) (written x.start (replicate (len_of x) g.empty) cells))
  sector_done = run_done (a1_setup g) start request r steps end refl enough runs refl refl _ refl refl

-- EraseChip of the whole region
module _ (g : Given) (c a : ℕ) (ram cells : List ℕ) (home : IsHome 0x20000000 (written 176 [] ram)) (quick : IsQuick g) (many : 0 < sector_count g)
    (full : length cells ≡ g.size) where
  abbrev chip_request : Request
  chip_request = asked a_call.EraseChip []

  abbrev chip_place : Option (ℕ × ℕ)
  chip_place = Some (span (range 0 g.size))

  abbrev chip_start : World
  chip_start = a1_world g ram (unlocked c a) cells

  abbrev chip_first : Point
  chip_first = first_point (a1_setup g) chip_start chip_request

  abbrev chip_fill : Work
  chip_fill = work.Fill g.size g.empty

  chip_lies : OpensIn chip_place (Some (0, g.size))
  chip_lies = (omega arith, omega arith)

  chip_begins : Goes chip_place 7 chip_first (begun g chip_place 0 3 0 0 chip_fill (written 176 [] ram) home chip_lies 3 g.chip_ticks cells)
  unfolding computed first_point AllIn
  chip_begins = run_goes chip_place 7 chip_first home refl (tt, tt, (tt, tt, (tt, tt, (tt, tt, (tt, tt, (tt, tt, (tt, chip_lies, tt)))))))

  abbrev chip_steps : ℕ
  chip_steps = 7 + erase_steps g chip_place 0 3 0 0 chip_fill (written 176 [] ram) home chip_lies g.chip_ticks

  abbrev chip_end : Point
  chip_end = returned g chip_place 0 3 0 0 chip_fill (written 176 [] ram) home chip_lies (written 0 (replicate g.size g.empty) cells)

  chip_runs : Goes chip_place chip_steps chip_first chip_end
  chip_runs = goes_then chip_place 7 _ chip_first _ chip_end chip_begins
      (begun_goes g chip_place 0 3 0 0 chip_fill (written 176 [] ram) home chip_lies 3 g.chip_ticks cells)

  chip_enough : chip_steps ≤ fuel_of (a1_setup g) a_call.EraseChip
  chip_enough = chip_fuel g chip_steps many
      (omega (arith, quick.chip, erase_bound g chip_place 0 3 0 0 chip_fill (written 176 [] ram) home chip_lies g.chip_ticks))
      (omega (arith, quick.chip_small, erase_bound g chip_place 0 3 0 0 chip_fill (written 176 [] ram) home chip_lies g.chip_ticks))

  pub chip_done : IsDone (a1_setup g) chip_start chip_request chip_place
      (a1_world g (written 176 [] ram) (unlocked 3 0) (written 0 (replicate g.size g.empty) cells))
  chip_done = run_done (a1_setup g) chip_start chip_request chip_place chip_steps chip_end refl chip_enough chip_runs refl refl _ refl refl
