-- A run of the target as a whole, and its slices.
use Rattle.std.specs.Prelude.{◌≡◌, ◌≤◌, ◌+◌, ◌-◌, ◌⊎◌, ℕ, false, List, [], ◌∷◌, replicate}
use Rattle.bench_model.specs.State.{BenchState}
use Rattle.armv6m_step.specs.declared.core_state.Core.{Core}
use Rattle.target_core.specs.declared.machine.Machine.{Machine}
use Rattle.target_core.specs.declared.machine.Frame.{Frame}
use Rattle.target_core.specs.declared.target.Target.{Target}
use Rattle.target_core.specs.declared.run.RunEnd.{RunEnd}
use Rattle.target_core.specs.declared.run.SliceEnd.{SliceEnd}
use Rattle.target_core.specs.declared.run.SliceEnd.TheVariants as slice
use Rattle.target_core.specs.Windows.{window_of}
use Rattle.target_core.specs.Units.{Unit, unit_map, unit_state}
use Rattle.target_core.specs.Path.{Point, RunsTo, SliceIs, last_of_slice}

-- a core with these registers, no flag set, and PRIMASK clear
abbrev pub core_at : List ℕ → Core
core_at regs = record { regs = regs; n = false; z = false; c = false; v = false; primask = false }

-- the core after a reset: all registers are zero
abbrev pub fresh_core : Core
fresh_core = core_at (replicate 16 0)

-- a target: the core, the RAM from its base on, the controller, and the return point of the run that was started last
pub record Standing : Type 0 where
  pub core : Core
  pub ram_base : ℕ
  pub ram : List ℕ
  pub unit : Unit
  pub return_at : ℕ

-- a machine with this RAM
abbrev pub with_ram : Machine → List ℕ → Standing
with_ram m ram = record { core = m.core; ram_base = m.ram_base; ram = ram; unit = m.unit; return_at = m.return_at }

-- a machine with a window as its RAM
abbrev pub over : Machine → List (List ℕ) → ℕ → Standing
over m windows i = with_ram m (window_of windows i)

-- a target with its own RAM
abbrev pub stands : Target → Standing
stands t = over t.machine t.arena 0

abbrev pub after_start : Standing → Frame → Standing
after_start t f = record t { core = core_at f.regs; return_at = f.return_at }

-- the point of a target over these cells
abbrev pub point_in : Standing → List ℕ → Point
point_in t cells = record {
  core = t.core;
  world = record { ram_base = t.ram_base; ram = t.ram; map = unit_map t.unit; state = unit_state t.unit; cells = cells };
}

-- A slice of a run leads from one point to another and ends in this way. The fuel left falls by the steps made.
pub record SliceFrom (return_at : ℕ) (first : Point) (start : BenchState) (left left' steps : ℕ) (e : SliceEnd) (last : Point) (end : BenchState) : Type 0 where
  pub runs : RunsTo return_at left first (left - left') (last_of_slice e (left - left')) start end
  pub ends : SliceIs return_at left steps first (left - left') e last end

-- a slice from one target to another
abbrev pub SliceGives : Standing → BenchState → ℕ → ℕ → ℕ → SliceEnd → Standing → BenchState → Type 0
SliceGives from start left left' steps e to end = SliceFrom from.return_at (point_in from start.cells) start left left' steps e (point_in to end.cells) end

-- A run in slices, one for each number of the list; the last slice ends the run. Each slice starts where the one before it ended, with the
-- bench and the fuel that it left.
abbrev pub Sliced : {B : Type 0} → (B → BenchState) → ℕ → List ℕ → Point → B → ℕ → RunEnd → Point → B → Type 0
Sliced state return_at [] first start fuel e last end = ⊥
Sliced {B} state return_at (steps ∷ more) first start fuel e last end =
    ((left : ℕ) × SliceFrom return_at first (state start) fuel left steps (slice.Ended e) last (state end))
    ⊎ ((left : ℕ) × (between : Point) × (turn : B) × (left ≤ fuel) × SliceFrom return_at first (state start) fuel left steps slice.More between (state turn)
    × Sliced state return_at more between turn left e last end)

-- A slice that ended with more to do made all its steps and has fuel left.
abbrev pub GoesOn : SliceEnd → ℕ → ℕ → ℕ → Type 0
GoesOn e left left' steps = e ≡ slice.More → (1 ≤ left') × (left' + steps ≡ left)
