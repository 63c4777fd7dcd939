-- What a session lends about a region is that of its survey.
use Rattle.std.proofs.Common.{◌≡◌, ◌<◌, ◌+◌, ◌∙◌, ℕ, zero, suc, List, [], ◌∷◌, map, length, get_or, Option, Some, IfSome, refl, sym, ap, subst, arith}
use Rattle.board_file.specs.Shown.{shown as board_of}
use Rattle.flm_descriptor.specs.Shown.{Shown as AlgorithmShown}
use Rattle.job_text.specs.Said.{algorithms_shown}
use Rattle.job_text.specs.declared.job.Job.{Job}
use Rattle.flash_session.specs.declared.region_plan.RegionPlan.{RegionPlan}
use Rattle.flash_session.specs.declared.ready.Survey.{Survey}
use Rattle.flash_session.specs.Script.{Planned}
use Rattle.flash_session.specs.Sessions.{shown_in}
use Rattle.flash_session.specs.Surveys.{planned_of, regions_of}
use Rattle.flash_session.specs.SurveyFacts.{AreRegionSurveys, IsSurvey}
use Rattle.flash_session.proofs.JobLemmas.{counts_are}

works_count : (algorithms : List AlgorithmShown) (start : ℕ) (works : List RegionPlan) → AreRegionSurveys algorithms start works
    → length works ≡ length algorithms
works_count [] start [] are = refl
works_count (a ∷ rest) start (r ∷ more) are = ap suc (works_count rest (start + a.device.size) more are.1)
works_count algorithms start works are = absurd are

-- each region of the board has a plan in the survey
pub region_inside : (j : Job) (w : Survey) (region : ℕ) → IsSurvey j w → region < length j.board.regions → region < length (regions_of w)
region_inside j w region is less =
    omega (
      arith,
      less,
      works_count (algorithms_shown j.algorithms) 0 (regions_of w) is.regions,
      counts_are (board_of j.board) j.board.regions (algorithms_shown j.algorithms) j.fit,
    )

planned_at : (works : List RegionPlan) (k : ℕ) (other : Planned) (r : RegionPlan) → k < length works
    → get_or (map planned_of works) k other ≡ planned_of (get_or works k r)
planned_at [] k other r less = absurd (omega (arith, less))
planned_at (w ∷ works) zero other r less = refl
planned_at (w ∷ works) (suc k) other r less = planned_at works k other r (omega (arith, less))

module _ (o : Option Survey) (w : Survey) (k : ℕ) (r : RegionPlan) (is : o ≡ Some w) (less : k < length (regions_of w))
    (there : (other : RegionPlan) → r ≡ get_or (regions_of w) k other) where
  found : (other : Planned) → planned_of r ≡ get_or (map planned_of (regions_of w)) k other
  found other = ap planned_of (there r) ∙ sym (planned_at (regions_of w) k other r less)

  pub plan_from : IfSome (shown_in o) (λ v. (other : Planned) → r.plan.made ≡ (get_or v.regions k other).plan)
  plan_from = subst (λ (x : Option Survey). IfSome (shown_in x) (λ v. (other : Planned) → r.plan.made ≡ (get_or v.regions k other).plan)) (sym is)
      (λ other. ap (λ (p : Planned). p.plan) (found other))

  pub layout_from : IfSome (shown_in o) (λ v. (other : Planned) → r.geometry ≡ (get_or v.regions k other).layout)
  layout_from = subst (λ (x : Option Survey). IfSome (shown_in x) (λ v. (other : Planned) → r.geometry ≡ (get_or v.regions k other).layout)) (sym is)
      (λ other. ap (λ (p : Planned). p.layout) (found other))
