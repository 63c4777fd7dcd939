-- `RegionPlan::find_sector`: what holds at each turn of its loop.
use Rattle.std.proofs.Common.{◌≡◌, ℕ, List}
use Rattle.algo_calls.specs.Setups.{Setup}
use Rattle.flash_session.specs.Items.{sectors_on}
use Rattle.flash_session.proofs.region_plan.RegionPlan.find_sector.Given as goal

abbrev pub invariant-loop-k : goal.invariant-loop-k
invariant-loop-k l = (s : Setup) (bytes : List ℕ) → sectors_on s l.self bytes l.index ≡ sectors_on s l.self bytes l.k
