-- One step of the run at hand, and the marks after it.
use Rattle.std.specs.Prelude.{◌≡◌, ℕ, false, nat_eq, Option, Some}
use Rattle.armv6m_step.specs.declared.ends.StepEnd.TheVariants as end
use Rattle.armv6m_step.specs.Registers.{pc_of}
use Rattle.target_core.specs.Units.{state_op}
use Rattle.target_core.specs.Path.{Point, instructed, step_end, ticked}
use Rattle.algo_calls.specs.Duties.{OpensIn}
use Rattle.shadow_step.specs.Shadow.{Marks}
use Rattle.shadow_step.specs.Steps.{step_marks}
use Rattle.duty_proofs.specs.Lockstep.{Fetches}
use Rattle.duty_proofs.specs.TargetMarks.{TargetMarks, target_shadow, tick_by}

-- from a point away from the return point to the point after an instruction and a tick
pub record Advances (return_at : ℕ) (x x' : Point) : Type 0 where
  pub went : step_end x ≡ end.Went
  pub away : nat_eq (pc_of x.core) return_at ≡ false
  pub leaves : x' ≡ ticked (instructed x)

-- there are marks after the instruction and after the tick, and an open operation is within the place
pub record Steps (return_at : ℕ) (place : Option (ℕ × ℕ)) (x x' : Point) (r r' : Marks TargetMarks) : Type 0 where
  pub half : ℕ
  pub second : ℕ
  pub between : Marks TargetMarks
  pub fetches : Fetches x half second
  pub marked : step_marks target_shadow r.core r.bus x.core half second ≡ Some between
  pub within : OpensIn place (state_op between.bus.state)
  pub goes : Advances return_at x x'
  pub after : r' ≡ record { core = between.core; bus = tick_by between.bus between.bus.state.operation }
