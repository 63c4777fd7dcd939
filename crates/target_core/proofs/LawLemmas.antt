-- Whole runs and slices: one start has one end, and a run that is cut into slices ends as the whole run does.
use Rattle.std.proofs.Common.{◌≡◌, ◌≤◌, ◌+◌, ◌-◌, ◌*◌, ◌/◌, ◌%◌, ℕ, true, false, List, [], ◌∷◌, ⊎_elim, refl, sym, ap, subst, arith, ◌∙◌}
use Rattle.bench_model.specs.History.{Leaves}
use Rattle.bench_model.specs.State.{BenchState, cells_half}
use Rattle.bench_model.proofs.Moments.{leaves_as, leaves_then}
use Rattle.target_core.specs.declared.run.RunEnd.{RunEnd}
use Rattle.target_core.specs.declared.run.RunEnd.TheVariants as run
use Rattle.target_core.specs.declared.run.SliceEnd.TheVariants as slice
use Rattle.target_core.specs.Units.{state_op}
use Rattle.target_core.specs.World.{is_due}
use Rattle.target_core.specs.Path.{Point, whole, point, step_asks, is_device_end, GoesTo, IsLeftOnPath, LeftAt}
use Rattle.target_core.specs.Runs.{steps_made, run_end_of, run_last, run_path, last_point, BreaksOffOn, RunEndsAs, RunGives, HasOneEnd, GoesOnAs}
use Rattle.target_core.specs.Targets.{SliceFrom, Sliced}
use Rattle.target_core.proofs.PathLemmas.{point_even, longer}
use Rattle.target_core.proofs.EndLemmas.{run_of_slice}
use Rattle.target_core.proofs.RunLemmas.{steps_made_is, steps_made_within, run_end_is, run_last_is}
use Rattle.target_core.proofs.FineLemmas.{run_is_fine}
use Rattle.target_core.proofs.SliceLemmas.{run_goes, run_has_end, whole_add, run_end_add, run_last_add}

pub has_one_end : (return_at fuel : ℕ) (p : Point) → HasOneEnd return_at fuel p
has_one_end return_at fuel p = record {
  within = steps_made_within return_at fuel p;
  goes = run_goes return_at fuel p;
  ends = run_has_end return_at fuel p;
  fine = run_is_fine return_at fuel p;
  last = run_last_is return_at fuel p (steps_made return_at fuel p) (run_end_of return_at fuel p) (steps_made_within return_at fuel p)
      (run_goes return_at fuel p) (run_has_end return_at fuel p);
  alone = λ made e within goes ends. (sym (steps_made_is return_at fuel p made e within goes ends), sym (run_end_is return_at fuel p made e within goes ends));
}

-- the points of a run, numbered from one of its whole steps
pub point_add : (p : Point) (m n : ℕ) → point p (2 * m + n) ≡ point (whole p m) n
unfolding point
point_add p m n =
    let same : (2 * m + n) % 2 ≡ n % 2 = omega arith in
    let half : (2 * m + n) / 2 ≡ m + n / 2 = omega arith in
    rw (same, half, whole_add p m (n / 2)) refl

pub goes_on_as : (return_at fuel : ℕ) (p : Point) (m : ℕ) → m ≤ fuel → GoesTo return_at fuel p m → GoesOnAs return_at fuel p m
goes_on_as return_at fuel p m le goes = record {
  end = run_end_add return_at fuel p m le goes;
  last = run_last_add return_at fuel p m le goes;
  points = point_add p m;
}

-- what a whole run gives if no device fault came
ended_as : (return_at fuel : ℕ) (first : Point) (start : BenchState) (e : RunEnd) (last : Point) (end : BenchState) →
    RunEndsAs return_at fuel first start e last end →
    is_device_end e ≡ false → (e ≡ run_end_of return_at fuel first) × (last ≡ last_point (run_path return_at fuel first))
ended_as return_at fuel first start (run.Returned r0) last end ends fine = ends
ended_as return_at fuel first start (run.NoFuel pc) last end ends fine = ends
ended_as return_at fuel first start (run.StrayBreak pc) last end ends fine = ends
ended_as return_at fuel first start (run.Faulted kind pc) last end ends fine = ends
ended_as return_at fuel first start run.DeviceFault last end ends fine = cc

pub one_end : (return_at fuel : ℕ) (first : Point) (start s : BenchState) (e f : RunEnd) (last other : Point) (end t : BenchState)
    → RunGives return_at fuel first start e last end → RunGives return_at fuel first s f other t → is_device_end e ≡ false → is_device_end f ≡ false → (e ≡ f) ×
    (last ≡ other)
one_end return_at fuel first start s e f last other end t one two fine good =
    let a : (e ≡ run_end_of return_at fuel first) × (last ≡ last_point (run_path return_at fuel first)) =
    ended_as return_at fuel first start e last end one.ends fine in
    let b : (f ≡ run_end_of return_at fuel first) × (other ≡ last_point (run_path return_at fuel first)) =
    ended_as return_at fuel first s f other t two.ends good in
    (a.0 ∙ sym b.0, a.1 ∙ sym b.1)

-- The rest of a run, from one of its whole steps on, compared with the whole run.
module _ (return_at fuel : ℕ) (first : Point) (made : ℕ) (le : made ≤ fuel) (goes : GoesTo return_at fuel first made) (here : Point)
    (is : here ≡ whole first made) (rest : ℕ) (left : rest ≡ fuel - made) where
  far : run_last return_at fuel first ≡ 2 * made + run_last return_at rest here
  far = rw (is, left) (run_last_add return_at fuel first made le goes)

  there : (n : ℕ) → point here n ≡ point first (2 * made + n)
  there n = ap (λ (p : Point). point p n) is ∙ sym (point_add first made n)

  left_there : (n m : ℕ) → 2 * made + n ≤ m → (c : List ℕ) → IsLeftOnPath here n c → IsLeftOnPath first m c
  left_there n m le c at = record {
    number = 2 * made + at.number;
    within = omega (arith, le, at.within);
    left = subst (λ (p : Point). LeftAt p c) (there at.number) at.left;
  }

  -- what a stop leaves in the steps before and in the rest
  moments_there : (start mid end : BenchState) (n m : ℕ) → 2 * made + n ≤ m → Leaves (cells_half start) (cells_half mid) (IsLeftOnPath first (2 * made)) →
      Leaves (cells_half mid) (cells_half end) (IsLeftOnPath here n) → Leaves (cells_half start) (cells_half end) (IsLeftOnPath first m)
  moments_there start mid end n m le before moments = leaves_then (IsLeftOnPath first m)
      (leaves_as (IsLeftOnPath first (2 * made)) (IsLeftOnPath first m) (longer first (2 * made) m (omega (arith, le))) before)
      (leaves_as (IsLeftOnPath here n) (IsLeftOnPath first m) (left_there n m le) moments)

  breaks_off_there : (start mid end : BenchState) → Leaves (cells_half start) (cells_half mid) (IsLeftOnPath first (2 * made)) →
      BreaksOffOn (run_path return_at rest here) mid end → BreaksOffOn (run_path return_at fuel first) start end
  breaks_off_there start mid end before broke = record {
    number = 2 * made + broke.number;
    before = omega (arith, far, broke.before);
    moments = moments_there start mid end (broke.number + broke.number % 2) (2 * made + broke.number + (2 * made + broke.number) % 2) (omega arith)
        before broke.moments;
    stands = record {
      cells = broke.stands.cells ∙ ap (λ (p : Point). p.world.cells) (there broke.number);
      operation = broke.stands.operation ∙ ap (λ (p : Point). state_op p.world.state) (there broke.number);
    };
    idle = λ even. broke.idle (omega (arith, even));
    asks = λ even. subst (λ (p : Point). step_asks p ≡ true) (there broke.number) (broke.asks (omega (arith, even)));
    due = λ odd. subst (λ (p : Point). is_due p.world ≡ true) (there broke.number) (broke.due (omega (arith, odd)));
  }

  same_end : run_end_of return_at rest here ≡ run_end_of return_at fuel first
  same_end = rw (is, left) (sym (run_end_add return_at fuel first made le goes))

  same_last : last_point (run_path return_at rest here) ≡ last_point (run_path return_at fuel first)
  same_last = there (run_last return_at rest here) ∙ ap (point first) (sym far)

  ends_there : (start mid end : BenchState) (e : RunEnd) (last : Point) → Leaves (cells_half start) (cells_half mid) (IsLeftOnPath first (2 * made)) →
      RunEndsAs return_at rest here mid e last end → RunEndsAs return_at fuel first start e last end
  ends_there start mid end (run.Returned r0) last before ends = (ends.0 ∙ same_end, ends.1 ∙ same_last)
  ends_there start mid end (run.NoFuel pc) last before ends = (ends.0 ∙ same_end, ends.1 ∙ same_last)
  ends_there start mid end (run.StrayBreak pc) last before ends = (ends.0 ∙ same_end, ends.1 ∙ same_last)
  ends_there start mid end (run.Faulted kind pc) last before ends = (ends.0 ∙ same_end, ends.1 ∙ same_last)
  ends_there start mid end run.DeviceFault last before ends = breaks_off_there start mid end before ends

  pub rest_gives : (start mid end : BenchState) (e : RunEnd) (last : Point) → Leaves (cells_half start) (cells_half mid) (IsLeftOnPath first (2 * made)) →
      RunGives return_at rest here mid e last end → RunGives return_at fuel first start e last end
  rest_gives start mid end e last before gives = record {
    moments = moments_there start mid end (run_last return_at rest here) (run_last return_at fuel first) (omega (arith, far)) before gives.moments;
    ends = ends_there start mid end e last before gives.ends;
  }

-- a slice that ended with more to do, and then a run with the fuel that was left
pub slice_then_run : (return_at : ℕ) (first between last : Point) (start turn end : BenchState) (fuel left steps : ℕ) (e : RunEnd) → left ≤ fuel →
    SliceFrom return_at first start fuel left steps slice.More between turn
    → RunGives return_at left between turn e last end → RunGives return_at fuel first start e last end
slice_then_run return_at first between last start turn end fuel left steps e le is gives =
    let made : ℕ = fuel - left in
    let here : between ≡ whole first made = is.ends.1.leaves ∙ point_even first made in
    rest_gives return_at fuel first made is.runs.within is.runs.goes between here left (omega (arith, le)) start turn end e last is.runs.moments gives

-- the slices of a run, however it is cut, give the whole run
pub sliced_is_run : {B : Type 0} (state : B → BenchState) (return_at : ℕ) (cuts : List ℕ) (first : Point) (start : B) (fuel : ℕ) (e : RunEnd) (last : Point)
    (end : B) → Sliced state return_at cuts first start fuel e last end
    → RunGives return_at fuel first (state start) e last (state end)
sliced_is_run state return_at [] first start fuel e last end is = absurd is
sliced_is_run {B} state return_at (steps ∷ more) first start fuel e last end is = ⊎_elim
    (λ (ended : (left : ℕ) × SliceFrom return_at first (state start) fuel left steps (slice.Ended e) last (state end)).
    run_of_slice return_at first last (state start) (state end) fuel ended.0 steps e ended.1)
    (λ (on : (left : ℕ) × (between : Point) × (turn : B) × (left ≤ fuel) × SliceFrom return_at first (state start) fuel left steps slice.More between
    (state turn) × Sliced state return_at more between turn left e last end).
    slice_then_run return_at first on.1 last (state start) (state on.2) (state end) fuel on.0 steps e on.3 on.4
    (sliced_is_run state return_at more on.1 on.2 on.0 e last end on.5))
    is
