-- A run has the end and the last point that its first point and its fuel give.
use Rattle.std.proofs.Common.{◌≡◌, ◌≤◌, ◌<◌, ◌+◌, ◌-◌, ◌*◌, ◌%◌, ℕ, Bool, true, false, nat_eq, if◌then◌else◌, Option, Some, sym, ap, subst, arith, ◌∙◌, ⊎_elim}
use Rattle.std.proofs.lemmas.Bool.{cases_lt}
use Rattle.bench_model.specs.History.{Leaves}
use Rattle.bench_model.specs.State.{BenchState, cells_half}
use Rattle.bench_model.proofs.Moments.{leaves_as}
use Rattle.armv6m_step.specs.declared.ends.StepEnd.{StepEnd}
use Rattle.armv6m_step.specs.Ends.{is_device_end as is_device_step}
use Rattle.armv6m_step.specs.Registers.{pc_of}
use Rattle.target_core.specs.declared.run.RunEnd.{RunEnd}
use Rattle.target_core.specs.declared.run.RunEnd.TheVariants as run
use Rattle.target_core.specs.declared.run.SliceEnd.TheVariants as slice
use Rattle.target_core.specs.Path.{Point, whole, point, run_end, step_end, end_at, last_number, GoesTo, RunsTo, FailsInStep, FailsInTick, BrokeOff, EndsWith}
use Rattle.target_core.specs.Path.{EndIs, IsLeftOnPath}
use Rattle.target_core.specs.Runs.{steps_made, run_end_of, run_last, run_path, IsLeftOn, BreaksOffOn, RunGives}
use Rattle.target_core.specs.Targets.{SliceFrom}
use Rattle.target_core.proofs.PathLemmas.{away, longer, last_fine, point_even}
use Rattle.target_core.proofs.RunLemmas.{last_from, run_end_is, run_last_is, run_last_from, steps_made_least}
use Rattle.target_core.proofs.SliceLemmas.{run_has_end}
use Rattle.target_core.proofs.FineLemmas.{step_fine}

-- A device fault comes before the last point.

tested_odd : (back used : Bool) (r0 at : ℕ) (e : StepEnd) (pc : ℕ) (r : RunEnd) (k : ℕ) → back ≡ false → used ≡ false
    → ◌≡◌ {A = Option RunEnd} (if back then Some (run.Returned r0) else if used then Some (run.NoFuel at) else run_end e pc) (Some r) →
    is_device_step e ≡ false → last_number r k ≡ 2 * k + 1
tested_odd true used r0 at e pc r k back left same fine = cc
tested_odd false true r0 at e pc r k back left same fine = cc
tested_odd false false r0 at e pc r k back left same fine = last_fine e pc r k same fine

-- an end other than the return point or the fuel is at the point after the step's instruction
end_odd : (return_at fuel : ℕ) (p : Point) (k : ℕ) (r : RunEnd) → nat_eq (pc_of (whole p k).core) return_at ≡ false → nat_eq k fuel ≡ false →
    end_at return_at fuel p k ≡ Some r → last_number r k ≡ 2 * k + 1
unfolding end_at
end_odd return_at fuel p k r back left same = tested_odd _ _ _ _ (step_end (whole p k)) (pc_of (whole p k).core) r k back left same (step_fine (whole p k))

more_steps : (return_at fuel : ℕ) (p : Point) (made : ℕ) → made < steps_made return_at fuel p → 2 * made < run_last return_at fuel p
unfolding run_last
more_steps return_at fuel p made more = omega (arith, more, last_from (run_end_of return_at fuel p) (steps_made return_at fuel p))

step_before_last : (return_at fuel : ℕ) (p : Point) (made : ℕ) → made < fuel → GoesTo return_at fuel p made →
    nat_eq (pc_of (point p (2 * made)).core) return_at ≡ false → 2 * made < run_last return_at fuel p
step_before_last return_at fuel p made left goes back = ⊎_elim
    (λ (more : made < steps_made return_at fuel p). more_steps return_at fuel p made more)
    (λ (all : steps_made return_at fuel p ≤ made).
    let within : made ≤ fuel = omega (arith, left) in
    let same : steps_made return_at fuel p ≡ made = omega (arith, all, steps_made_least return_at fuel p made within goes) in
    let ends : end_at return_at fuel p made ≡ Some (run_end_of return_at fuel p) =
    subst (λ (k : ℕ). end_at return_at fuel p k ≡ Some (run_end_of return_at fuel p)) same (run_has_end return_at fuel p) in
    let here : nat_eq (pc_of (whole p made).core) return_at ≡ false = subst (λ (q : Point). nat_eq (pc_of q.core) return_at ≡ false) (point_even p made) back in
    let odd : last_number (run_end_of return_at fuel p) made ≡ 2 * made + 1 = end_odd return_at fuel p made (run_end_of return_at fuel p) here
    (away made fuel (λ used. omega (arith, used, left))) ends in
    omega (arith, odd, run_last_is return_at fuel p made (run_end_of return_at fuel p) within goes ends))
    (cases_lt made (steps_made return_at fuel p))

broke_off : (return_at fuel steps : ℕ) (first : Point) (made : ℕ) (start end : BenchState) → RunsTo return_at fuel first made (2 * made) start end →
    BrokeOff return_at fuel steps first made end → BreaksOffOn (run_path return_at fuel first) start end
broke_off return_at fuel steps first made start end runs broke = ⊎_elim
    (λ (step : FailsInStep return_at fuel steps first made end). record {
      number = 2 * made;
      before = step_before_last return_at fuel first made step.left runs.goes step.away;
      moments = so_far (2 * made) (omega arith);
      stands = step.stands;
      idle = λ even. step.idle;
      asks = λ even. step.asks;
      due = λ odd. absurd (omega (arith, odd));
    })
    (λ (tick : FailsInTick first made end). record {
      number = 2 * made - 1;
      before = omega (arith, tick.some, run_last_from return_at fuel first made runs.within runs.goes);
      moments = so_far (2 * made - 1) (omega (arith, tick.some));
      stands = tick.stands;
      idle = λ even. absurd (omega (arith, even, tick.some));
      asks = λ even. absurd (omega (arith, even, tick.some));
      due = λ odd. tick.due;
    })
    broke
  where
    so_far : (number : ℕ) → 2 * made ≤ number + number % 2 → Leaves (cells_half start) (cells_half end) (IsLeftOnPath first (number + number % 2))
    so_far number le = leaves_as (IsLeftOnPath first (2 * made)) (IsLeftOnPath first (number + number % 2))
        (longer first (2 * made) (number + number % 2) le) runs.moments

-- an end that is not a device fault
module _ (return_at fuel : ℕ) (first : Point) (made : ℕ) (start : BenchState) (e : RunEnd) (last : Point) (end : BenchState)
    (runs : RunsTo return_at fuel first made (last_number e made) start end) (ends : EndsWith return_at fuel first made e last) where
  same_last : run_last return_at fuel first ≡ last_number e made
  same_last = run_last_is return_at fuel first made e runs.within runs.goes ends.ends

  pub ended_moments : Leaves (cells_half start) (cells_half end) (IsLeftOn (run_path return_at fuel first))
  ended_moments = subst (λ (n : ℕ). Leaves (cells_half start) (cells_half end) (IsLeftOnPath first n)) (sym same_last) runs.moments

  pub ended_as : (e ≡ run_end_of return_at fuel first) × (last ≡ point first (run_last return_at fuel first))
  ended_as = (sym (run_end_is return_at fuel first made e runs.within runs.goes ends.ends), ends.leaves ∙ ap (point first) (sym same_last))

pub run_gives : (return_at fuel steps : ℕ) (first : Point) (made : ℕ) (start : BenchState) (e : RunEnd) (last : Point) (end : BenchState) →
    RunsTo return_at fuel first made (last_number e made) start end → EndIs return_at fuel steps first made e last end →
    RunGives return_at fuel first start e last end
run_gives return_at fuel steps first made start (run.Returned r0) last end runs ends =
    record {
      moments = ended_moments return_at fuel first made start _ last end runs ends;
      ends =
          ended_as return_at fuel first made start _ last end runs ends;
    }
run_gives return_at fuel steps first made start (run.NoFuel pc) last end runs ends =
    record {
      moments = ended_moments return_at fuel first made start _ last end runs ends;
      ends =
          ended_as return_at fuel first made start _ last end runs ends;
    }
run_gives return_at fuel steps first made start (run.StrayBreak pc) last end runs ends =
    record {
      moments = ended_moments return_at fuel first made start _ last end runs ends;
      ends =
          ended_as return_at fuel first made start _ last end runs ends;
    }
run_gives return_at fuel steps first made start (run.Faulted kind pc) last end runs ends =
    record {
      moments = ended_moments return_at fuel first made start _ last end runs ends;
      ends =
          ended_as return_at fuel first made start _ last end runs ends;
    }
run_gives return_at fuel steps first made start run.DeviceFault last end runs ends =
    let le : 2 * made ≤ run_last return_at fuel first = run_last_from return_at fuel first made runs.within runs.goes in
    record {
      moments = leaves_as (IsLeftOnPath first (2 * made)) (IsLeftOnPath first (run_last return_at fuel first))
          (longer first (2 * made) (run_last return_at fuel first) le) runs.moments;
      ends = broke_off return_at fuel steps first made start end runs ends;
    }

-- a slice that ended has the end of the run with the fuel that was left to it
pub run_of_slice : (return_at : ℕ) (first last : Point) (start end : BenchState) (left left' steps : ℕ) (e : RunEnd) →
    SliceFrom return_at first start left left' steps (slice.Ended e) last end → RunGives return_at left first start e last end
run_of_slice return_at first last start end left left' steps e is = run_gives return_at left steps first (left - left') start e last end is.runs is.ends.0
