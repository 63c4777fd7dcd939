-- A call of the run at hand and of another run, step by step.
use Rattle.std.specs.Prelude.{◌≡◌, ◌<◌, ℕ, false, nat_eq, Option, Ok}
use Rattle.armv6m_decode.specs.declared.instr.Decoded.TheVariants as decoded_as
use Rattle.armv6m_decode.specs.Table.{decoded}
use Rattle.armv6m_step.specs.Access.{Load}
use Rattle.armv6m_step.specs.Numbers.{sum}
use Rattle.armv6m_step.specs.declared.ends.StepEnd.TheVariants as end
use Rattle.armv6m_step.specs.Registers.{pc_of}
use Rattle.target_core.specs.Units.{state_op}
use Rattle.target_core.specs.World.{World, world_answer}
use Rattle.target_core.specs.Path.{Point, instructed, step_end, whole}
use Rattle.algo_calls.specs.Duties.{OpensIn}
use Rattle.shadow_step.specs.Marks.{Pages, CoreAgrees}
use Rattle.shadow_step.specs.Shadow.{Marks}

-- the halfwords of the instruction at hand; the second one is read only for a pair
pub record Fetches (x : Point) (half second : ℕ) : Type 0 where
  pub first : (world_answer x.world (Load 2 (pc_of x.core))).0 ≡ Ok half
  pub then' : decoded half ≡ decoded_as.NeedsSecond → (world_answer x.world (Load 2 (sum (pc_of x.core) 2))).0 ≡ Ok second

-- a step continues from this point: away from the return point, with an open operation only in the place
pub record GoesOn (return_at : ℕ) (place : Option (ℕ × ℕ)) (p : Point) : Type 0 where
  pub went : step_end p ≡ end.Went
  pub away : nat_eq (pc_of p.core) return_at ≡ false
  pub before : OpensIn place (state_op p.world.state)
  pub within : OpensIn place (state_op (instructed p).world.state)

-- each of the first n steps continues
abbrev pub AllGo : ℕ → Option (ℕ × ℕ) → Point → ℕ → Type 0
AllGo return_at place first n = (j : ℕ) → j < n → GoesOn return_at place (whole first j)

-- the marks hold of a point at hand and of another one
pub record PointAgrees {M : Type 0} (p : Pages) (Agrees : M → World → World → Type 0) (r : Marks M) (x x' : Point) : Type 0 where
  pub core : CoreAgrees p r.core x.core x'.core
  pub bus : Agrees r.bus x.world x'.world

-- the other run has made as many steps as the run at hand, and the marks hold of both
pub record RunAgrees {M : Type 0} (p : Pages) (Agrees : M → World → World → Type 0) (return_at : ℕ) (place : Option (ℕ × ℕ)) (first first' : Point) (n : ℕ)
    (r : Marks M) : Type 0 where
  pub now : PointAgrees p Agrees r (whole first n) (whole first' n)
  pub on : AllGo return_at place first' n
