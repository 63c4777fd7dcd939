-- A target that has ended has an outcome that a session alone may have for the same work.
use Rattle.std.specs.Prelude.{ℕ, List}
use Rattle.bench_model.specs.State.{BenchState}
use Rattle.flash_session.specs.declared.session.Reached.{Reached}
use Rattle.flash_session.specs.declared.session.SessionEnd.TheVariants as end
use Rattle.flash_session.specs.Moves.{Stand}
use Rattle.flash_session.specs.Outcome.{Follows}
use Rattle.flash_session.specs.Script.{Leg}
use Rattle.flash_session.specs.declared.target_end.TargetEnd.{TargetEnd}
use Rattle.flash_session.specs.declared.target_end.TargetEnd.TheVariants as ended

-- the end of a target, its cells and each of its moments are an outcome of its own script; Done stands for Reached
abbrev pub FollowsAs : List Leg → (goal : List ℕ) → Stand → TargetEnd → BenchState → BenchState → Type 0
FollowsAs legs goal a ended.Done start now = (r : Reached) → Follows legs goal a (end.Reached r) start now
FollowsAs legs goal a (ended.Open fault) start now = ⊥
FollowsAs legs goal a (ended.Survey fault) start now = ⊥
FollowsAs legs goal a (ended.CallFailed number call e) start now = Follows legs goal a (end.CallFailed number call e) start now
FollowsAs legs goal a (ended.Mismatch d) start now = Follows legs goal a (end.Mismatch d) start now
FollowsAs legs goal a ended.StoreFault start now = Follows legs goal a end.StoreFault start now
FollowsAs legs goal a ended.DeviceFault start now = Follows legs goal a end.DeviceFault start now
