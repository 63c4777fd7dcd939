-- The law of the least plan. `plan_finish: least` is this law.
use Rattle.std.proofs.Common.{◌≡◌, ℕ, refl, sym, subst, Bool, List, length}
use Rattle.board_file.specs.declared.board.Weights.{Weights}
use Rattle.page_geometry.specs.Geometry.{Geometry, IsGeometry}
use Rattle.erase_planner.specs.Plans.{chosen, Chosen, IsLeastPlan}
use Rattle.erase_planner.proofs.LeastLemmas.{chosen_least}
use Rattle.erase_planner.proofs.ReachLemmas.{chosen_reach}
use Rattle.erase_planner.proofs.CostLemmas.{chosen_cost}

-- the chosen plan is a plan, and none costs less
pub least_plan : (l : Geometry) → IsGeometry l → (w : Weights) (has_chip : Bool) (empty : ℕ) (old want : List ℕ) → length old ≡ l.size → length want ≡ l.size →
    (plan : Chosen) → plan ≡ chosen l w has_chip empty old want → IsLeastPlan l w has_chip empty old want plan
least_plan l good w has_chip empty old want lo lw plan e =
    subst (λ (p : Chosen). IsLeastPlan l w has_chip empty old want p) (sym e) (record {
      chosen = refl;
      leads = chosen_reach l good w empty old want lo lw has_chip;
      priced = chosen_cost l w has_chip empty old want;
      least = chosen_least l good w empty old want lo has_chip;
    })
