-- A run that is cut into slices.
use Rattle.std.proofs.Common.{◌≡◌, ◌<◌, ◌≤◌, ◌+◌, ◌-◌, ◌*◌, ◌∙◌, ⊎_elim, ℕ, List, None, sym, ap, subst, arith}
use Rattle.std.proofs.lemmas.Bool.{cases_lt}
use Rattle.bench_model.specs.History.{left, Leaves}
use Rattle.bench_model.specs.State.{BenchState, cells_half}
use Rattle.bench_model.proofs.Moments.{leaves_here, leaves_as}
use Rattle.target_core.specs.declared.run.RunEnd.{RunEnd}
use Rattle.target_core.specs.declared.run.SliceEnd.TheVariants as slice
use Rattle.target_core.specs.Path.{Point, whole, point, end_at, GoesTo, IsLeftOnPath, LeftAt}
use Rattle.target_core.specs.Runs.{run_last, run_path, IsLeftOn, RunGives}
use Rattle.target_core.proofs.PathLemmas.{point_even, whole_none}
use Rattle.target_core.specs.Targets.{SliceFrom}
use Rattle.target_core.proofs.EndLemmas.{run_of_slice}
use Rattle.target_core.proofs.LawLemmas.{point_add, rest_gives}
use Rattle.target_core.proofs.RunLemmas.{run_last_from}
use Rattle.target_core.proofs.SliceLemmas.{end_add, whole_add}
use Rattle.flash_session.specs.Midway.{Midway}

-- a run before its first step
pub midway_first : (return_at fuel : ℕ) (first here : Point) → here ≡ first → Midway return_at fuel first fuel here
midway_first return_at fuel first here same = record {
  made = 0;
  fuel_is = omega arith;
  goes = λ j less. absurd (omega (arith, less));
  is = same
      ∙ sym (whole_none first);
}

-- if no end holds in the first steps or in the steps after them, none holds in all of them
goes_add : (return_at fuel : ℕ) (p : Point) (m k : ℕ) → m ≤ fuel → GoesTo return_at fuel p m → GoesTo return_at (fuel - m) (whole p m) k
    → GoesTo return_at fuel p (m + k)
goes_add return_at fuel p m k le one two j below = ⊎_elim
    (λ (before : j < m). one j before)
    (λ (after : m ≤ j).
    let split : m + (j - m) ≡ j = omega (arith, after) in
    let rest : end_at return_at fuel p (m + (j - m)) ≡ None = end_add return_at fuel p m (j - m) le ∙ two (j - m) (omega (arith, below, after)) in
    subst (λ (i : ℕ). end_at return_at fuel p i ≡ None) split rest)
    (cases_lt j m)

module _ (return_at fuel : ℕ) (first : Point) (rest : ℕ) (here : Point) (way : Midway return_at fuel first rest here) where
  left_is : rest ≡ fuel - way.made
  left_is = omega (arith, way.fuel_is)

  le : way.made ≤ fuel
  le = omega (arith, way.fuel_is)

  -- a slice that ended with more to do leaves the run after more whole steps
  module _ (steps less : ℕ) (last : Point) (start end : BenchState) (one : SliceFrom return_at here start rest less steps slice.More last end)
      (within : less ≤ rest) where
    abbrev more : ℕ
    more = rest - less

    goes_here : GoesTo return_at (fuel - way.made) (whole first way.made) more
    goes_here = subst (λ (p : Point). GoesTo return_at (fuel - way.made) p more) way.is (subst (λ (n : ℕ). GoesTo return_at n here more) left_is one.runs.goes)

    goes_both : GoesTo return_at fuel first (way.made + more)
    goes_both = goes_add return_at fuel first way.made more le way.goes goes_here

    pub midway_more : Midway return_at fuel first less last
    midway_more = record {
      made = way.made + more;
      fuel_is = omega (arith, way.fuel_is, within);
      goes = goes_both;
      is = one.ends.1.leaves ∙ point_even here more ∙ ap (λ (p : Point). whole p more) way.is ∙ sym (whole_add first way.made more);
    }

    bound : 2 * (way.made + more) ≤ run_last return_at fuel first
    bound = run_last_from return_at fuel first (way.made + more) (omega (arith, way.fuel_is, within)) goes_both

    pub moments_more : Leaves (cells_half start) (cells_half end) (IsLeftOn (run_path return_at fuel first))
    moments_more =
        leaves_as (IsLeftOnPath here (2 * more)) (IsLeftOn (run_path return_at fuel first))
        (λ c at. record {
          number = 2 * way.made + at.number;
          within = omega (arith, bound, at.within);
          left = subst (λ (p : Point). LeftAt p c) (ap (λ (p : Point). point p at.number) way.is ∙ sym (point_add first way.made at.number)) at.left;
        }) one.runs.moments

  -- a slice in which the run ended gives the end of the run
  module _ (steps less : ℕ) (e : RunEnd) (last : Point) (start end : BenchState) (one : SliceFrom return_at here start rest less steps (slice.Ended e) last end)
      (now : (c : List ℕ) → left (cells_half start) c → LeftAt here c) where
    pub ends_slice : RunGives return_at fuel first start e last end
    ends_slice =
        rest_gives return_at fuel first way.made le way.goes here way.is rest left_is start start end e last
        (leaves_here (cells_half start) (IsLeftOnPath first (2 * way.made)) (λ c at. record {
          number = 2 * way.made;
          within = omega arith;
          left = subst (λ (p : Point). LeftAt p c) (way.is ∙ sym (point_even first way.made)) (now c at);
        }))
        (run_of_slice return_at here last start end rest less steps e one)
