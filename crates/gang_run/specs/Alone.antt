-- Each of many targets that are driven by turns ends as it could alone.
use Rattle.std.specs.Prelude.{◌≡◌, ◌<◌, ℕ, true, List, None}
use Rattle.bench_model.specs.Pairs.{PairsInTurn}
use Rattle.bench_model.specs.State.{BenchState}
use Rattle.flash_session.specs.Moves.{Stand}
use Rattle.flash_session.specs.declared.cursor.Place.TheVariants as place
use Rattle.flash_session.specs.declared.target_end.TargetEnd.{TargetEnd}
use Rattle.flash_session.specs.declared.target_end.TargetEnd.TheVariants as ended
use Rattle.gang_run.specs.declared.target.GangTarget.{GangTarget}
use Rattle.flash_session.specs.Alone.{FollowsAs}
use Rattle.flash_session.specs.Guarded.{FileEnd, HasBody, IsAtClose, has_no_close}
use Rattle.flash_session.specs.Rest.{all_legs}
use Rattle.flash_session.specs.Targets.{legs_for, goal_for}
use Rattle.gang_run.specs.declared.slot.Slot.{Slot}
use Rattle.gang_run.specs.declared.slot.Slot.TheVariants as slot
use Rattle.gang_run.specs.Slots.{Counts}

-- The end of target `x`, its cells and its moments are an outcome of its own script, as if it ran alone. The job file is closed where the
-- target is done; otherwise it still stands for the job. Before the moment `at` a stop leaves the whole job. From `at` on it leaves the job
-- whole or closed, with the cells at the goal. A target that ends by a device fault, a failed call or a mismatch never reaches `at`. A
-- fault was counted exactly where the target ended by it.
pub record EndsAlone (a : Stand) (x : GangTarget) (s : BenchState) (new : Slot) (t : BenchState) (body : List ℕ) : Type 0 where
  pub target : GangTarget
  pub is : new ≡ slot.Open target
  pub end : TargetEnd
  pub place_is : target.player.place ≡ place.Ended end
  pub follows : FollowsAs (all_legs (legs_for x.player (goal_for x.job x.player s.file))) (goal_for x.job x.player s.file) a end s t
  pub file : FileEnd body end t.file
  pub idle : end ≡ ended.Done → t.operation ≡ None
  pub pairs : (at : ℕ) × PairsInTurn s t at (HasBody body) (IsAtClose body (goal_for x.job x.player s.file))
      × (has_no_close end ≡ true → t.moment < at)
  pub counts : Counts (place.Ended end) s t
