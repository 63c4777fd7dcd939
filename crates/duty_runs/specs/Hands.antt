-- A target with an algorithm, as its contracts see it.
use Rattle.std.specs.Prelude.{ℕ, List}
use Rattle.flash_layout.specs.Maps.{FlashMap}
use Rattle.target_core.specs.Units.{unit_map}
use Rattle.target_core.specs.Path.{Point}
use Rattle.algo_calls.specs.Setups.{Setup}
use Rattle.algo_calls.specs.Shows.{setup_at, point_at}
use Rattle.shadow_step.specs.Shadow.{Marks}
use Rattle.duty_proofs.specs.TargetMarks.{TargetMarks}
use Rattle.duty_proofs.specs.Views.{marks_in}
use Rattle.duty_runs.specs.declared.hand.Hand.{Hand}
use Rattle.duty_runs.specs.declared.step.RunMarks.{RunMarks}

abbrev pub hand_setup : Hand → Setup
hand_setup h = setup_at h.calls

abbrev pub hand_base : Hand → ℕ
hand_base h = h.calls.machine.ram_base

abbrev pub hand_map : Hand → FlashMap
hand_map h = unit_map h.calls.machine.unit

-- the point of the run over these cells
abbrev pub hand_point : Hand → List ℕ → Point
hand_point h cells = point_at h.calls h.arena 0 cells

-- the marks of a run
abbrev pub run_marks : RunMarks → Marks TargetMarks
run_marks r = record { core = r.core; bus = marks_in r.target }
