-- `RegionPlan::find_page`: what holds at each turn of its loop.
use Rattle.std.proofs.Common.{◌≡◌, ℕ, Bool, List}
use Rattle.algo_calls.specs.Setups.{Setup}
use Rattle.flash_session.specs.Items.{pages_on}
use Rattle.flash_session.proofs.region_plan.RegionPlan.find_page.Given as goal

abbrev pub invariant-loop-k : goal.invariant-loop-k
invariant-loop-k l = (v : Bool) (s : Setup) (bytes : List ℕ) → pages_on v s l.self bytes l.index ≡ pages_on v s l.self bytes l.k
