-- The steps of a run, its end and the number of its last point, from its first point and its fuel.
use Rattle.std.proofs.Common.{◌≡◌, ◌<◌, ◌≤◌, ◌+◌, ◌*◌, ℕ, zero, suc, true, false, Option, Some, None, is_some, refl, ap, subst, arith, ◌⊎◌, inl, inr, ⊎_elim}
use Rattle.std.proofs.lemmas.Bool.{cases_lt}
use Rattle.target_core.specs.declared.run.RunEnd.{RunEnd}
use Rattle.target_core.specs.declared.run.RunEnd.TheVariants as run
use Rattle.target_core.specs.Path.{Point, end_at, last_number, GoesTo}
use Rattle.target_core.specs.Runs.{steps_from, steps_made, run_end_of, run_last}

pub tests : (o : Option RunEnd) → (is_some o ≡ true) ⊎ (o ≡ None)
tests (Some e) = inl refl
tests None = inr refl

some_none : (o : Option RunEnd) → is_some o ≡ true → o ≡ None → ⊥
some_none o some none = let is : is_some o ≡ false = ap is_some none in cc

-- where no end holds before `made` steps, and one holds then, `made` steps are made
from_is : (return_at fuel : ℕ) (p : Point) (k more made : ℕ) → GoesTo return_at fuel p made → is_some (end_at return_at fuel p made) ≡ true → k ≤ made →
    made ≤ k + more → steps_from return_at fuel p k more ≡ made
unfolding steps_from
from_is return_at fuel p k zero made goes holds from to = omega (arith, from, to)
from_is return_at fuel p k (suc more) made goes holds from to = ⊎_elim
    (λ (now : is_some (end_at return_at fuel p k) ≡ true). rw now (⊎_elim
    (λ (before : k < made). absurd (some_none _ now (goes k before)))
    (λ (at : made ≤ k). omega (arith, at, from))
    (cases_lt k made)))
    (λ (none : end_at return_at fuel p k ≡ None). rw none (⊎_elim
    (λ (before : k < made). from_is return_at fuel p (suc k) more made goes holds (omega (arith, before)) (omega (arith, to)))
    (λ (at : made ≤ k). let same : k ≡ made = omega (arith, at, from) in
    absurd (some_none _ holds (subst (λ (i : ℕ). end_at return_at fuel p i ≡ None) same none)))
    (cases_lt k made)))
    (tests (end_at return_at fuel p k))

from_later : (return_at fuel : ℕ) (p : Point) (k more : ℕ) → k ≤ steps_from return_at fuel p k more
unfolding steps_from
from_later return_at fuel p k zero = omega arith
from_later return_at fuel p k (suc more) = ⊎_elim
    (λ (now : is_some (end_at return_at fuel p k) ≡ true). rw now (omega arith))
    (λ (none : end_at return_at fuel p k ≡ None). rw none (let rest : suc k ≤ steps_from return_at fuel p (suc k) more =
    from_later return_at fuel p (suc k) more in omega (arith, rest)))
    (tests (end_at return_at fuel p k))

from_within : (return_at fuel : ℕ) (p : Point) (k more : ℕ) → steps_from return_at fuel p k more ≤ k + more
unfolding steps_from
from_within return_at fuel p k zero = omega arith
from_within return_at fuel p k (suc more) = ⊎_elim
    (λ (now : is_some (end_at return_at fuel p k) ≡ true). rw now (omega arith))
    (λ (none : end_at return_at fuel p k ≡ None). rw none (let rest : steps_from return_at fuel p (suc k) more ≤ suc k + more =
    from_within return_at fuel p (suc k) more in omega (arith, rest)))
    (tests (end_at return_at fuel p k))

-- where no end holds before `made` steps, at least `made` steps are made
from_least : (return_at fuel : ℕ) (p : Point) (k more made : ℕ) → GoesTo return_at fuel p made → made ≤ k + more → made ≤ steps_from return_at fuel p k more
unfolding steps_from
from_least return_at fuel p k zero made goes to = omega (arith, to)
from_least return_at fuel p k (suc more) made goes to = ⊎_elim
    (λ (now : is_some (end_at return_at fuel p k) ≡ true). rw now (⊎_elim
    (λ (before : k < made). absurd (some_none _ now (goes k before)))
    (λ (at : made ≤ k). at)
    (cases_lt k made)))
    (λ (none : end_at return_at fuel p k ≡ None). rw none (from_least return_at fuel p (suc k) more made goes (omega (arith, to))))
    (tests (end_at return_at fuel p k))

pub steps_made_is : (return_at fuel : ℕ) (p : Point) (made : ℕ) (e : RunEnd) → made ≤ fuel → GoesTo return_at fuel p made →
    end_at return_at fuel p made ≡ Some e → steps_made return_at fuel p ≡ made
unfolding steps_made
steps_made_is return_at fuel p made e within goes ends = from_is return_at fuel p 0 fuel made goes (ap is_some ends) (omega arith) (omega (arith, within))

pub steps_made_within : (return_at fuel : ℕ) (p : Point) → steps_made return_at fuel p ≤ fuel
unfolding steps_made
steps_made_within return_at fuel p = omega (arith, from_within return_at fuel p 0 fuel)

pub steps_made_least : (return_at fuel : ℕ) (p : Point) (made : ℕ) → made ≤ fuel → GoesTo return_at fuel p made → made ≤ steps_made return_at fuel p
unfolding steps_made
steps_made_least return_at fuel p made within goes = from_least return_at fuel p 0 fuel made goes (omega (arith, within))

pub last_from : (e : RunEnd) (made : ℕ) → 2 * made ≤ last_number e made
last_from (run.Returned r0) made = omega arith
last_from (run.NoFuel pc) made = omega arith
last_from (run.StrayBreak pc) made = omega arith
last_from (run.Faulted kind pc) made = omega arith
last_from run.DeviceFault made = omega arith

last_to : (e : RunEnd) (made : ℕ) → last_number e made ≤ 2 * made + 1
last_to (run.Returned r0) made = omega arith
last_to (run.NoFuel pc) made = omega arith
last_to (run.StrayBreak pc) made = omega arith
last_to (run.Faulted kind pc) made = omega arith
last_to run.DeviceFault made = omega arith

-- a path has at most the points that its fuel allows
pub run_last_within : (return_at fuel : ℕ) (p : Point) → run_last return_at fuel p ≤ 2 * fuel + 1
unfolding run_last
run_last_within return_at fuel p = omega (arith, last_to (run_end_of return_at fuel p) (steps_made return_at fuel p), steps_made_within return_at fuel p)

-- a path has at least the points of the steps made
pub run_last_from : (return_at fuel : ℕ) (p : Point) (made : ℕ) → made ≤ fuel → GoesTo return_at fuel p made → 2 * made ≤ run_last return_at fuel p
unfolding run_last
run_last_from return_at fuel p made within goes = omega (
  arith,
  last_from (run_end_of return_at fuel p) (steps_made return_at fuel p),
  steps_made_least return_at fuel p made within goes,
)

pub run_end_is : (return_at fuel : ℕ) (p : Point) (made : ℕ) (e : RunEnd) → made ≤ fuel → GoesTo return_at fuel p made → end_at return_at fuel p made ≡ Some e →
    run_end_of return_at fuel p ≡ e
unfolding run_end_of
run_end_is return_at fuel p made e within goes ends = rw (steps_made_is return_at fuel p made e within goes ends, ends) refl

pub run_last_is : (return_at fuel : ℕ) (p : Point) (made : ℕ) (e : RunEnd) → made ≤ fuel → GoesTo return_at fuel p made →
    end_at return_at fuel p made ≡ Some e → run_last return_at fuel p ≡ last_number e made
unfolding run_last
run_last_is return_at fuel p made e within goes ends = rw (
  run_end_is return_at fuel p made e within goes ends,
  steps_made_is return_at fuel p made e within goes ends,
) refl
