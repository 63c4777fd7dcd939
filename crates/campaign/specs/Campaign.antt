-- Campaigns: a call of `program` or `begin`, and then calls that continue its job.
use Rattle.std.specs.Prelude.{◌≡◌, ◌⊎◌, ◌≤◌, ◌<◌, ℕ, List, [], ◌∷◌, Option, None}
use Rattle.bench_model.specs.History.{left}
use Rattle.bench_model.specs.State.{BenchState, file_half, Left}
use Rattle.bench_model.specs.Pairs.{PairsInTurn}
use Rattle.job_text.specs.Files.{IsFree, IsWhole}
use Rattle.campaign.specs.Stops.{CampaignJob, IsUntouched, IsAtClose, IsDone, IsTold, IsEntered, last_at, IsSafe}

-- `program` or `begin` on a free file: before its close, each pair is untouched or whole; `begin` has no close
pub record FirstCallStops (old new : BenchState) (closing : ℕ) (aim : CampaignJob) : Type 0 where
  pub pairs : PairsInTurn old new closing (λ f c. IsUntouched old f c ⊎ IsWhole aim.body f) (IsAtClose aim.body aim.laid)

-- `resume` or `revert` on the file of the job: before its close, each pair is one that a stop at entry may leave, or whole
pub record WorkStops (old new : BenchState) (closing : ℕ) (body goal : List ℕ) : Type 0 where
  pub pairs : PairsInTurn old new closing (λ f c. Left old f c ⊎ IsWhole body f) (IsAtClose body goal)

-- the command of a later call
pub data LaterCommand : Type 0 where
  resume : LaterCommand
  revert : LaterCommand

abbrev pub goal_of : CampaignJob → LaterCommand → List ℕ
goal_of aim resume = aim.laid
goal_of aim revert = aim.snapshot

-- A later call, from its entry to the exit that it would have without a stop: its status, `closing` and `end`. Its close begins at the
-- moment `closing`, which is one after the exit if the call has no close. It ended or was stopped at the moment `end`.
pub record LaterCall : Type 1 where
  pub goal : LaterCommand
  pub old : BenchState
  pub new : BenchState
  pub status : ℕ
  pub closing : ℕ
  pub end : ℕ

-- a call that has no close, and leaves only what a stop at its entry may leave
pub record StaysIdle (old new : BenchState) (closing : ℕ) : Type 0 where
  pub never : new.moment < closing
  pub pairs : (k : ℕ) (f c : List ℕ) → old.moment ≤ k → k ≤ new.moment → new.files_at k f → new.cells_at k c → Left old f c

-- What a later call keeps. On the file of the job: where its close begins, and what it leaves with status 0. On a free file: it is idle and
-- doesn't answer 0.
pub record Keeps (aim : CampaignJob) (call : LaterCall) : Type 0 where
  pub later : call.old.moment ≤ call.end
  pub in_time : call.end ≤ call.new.moment
  pub stands : IsWhole aim.body call.old.file → WorkStops call.old call.new call.closing aim.body (goal_of aim call.goal)
  pub idle : IsFree call.old.file → StaysIdle call.old call.new call.closing
  pub zero : call.status ≡ 0 → IsWhole aim.body call.old.file → IsDone aim.body (goal_of aim call.goal) call.new
  pub not_free : call.status ≡ 0 → IsFree call.old.file → ⊥

-- each of these calls is entered with what the one before it left, and keeps what it must
abbrev pub AllGoOn : CampaignJob → BenchState → ℕ → List LaterCall → Type 0
AllGoOn aim new end [] = Unit {0}
AllGoOn aim new end (call ∷ rest) = IsEntered aim new end call.old × Keeps aim call × AllGoOn aim call.new call.end rest

-- a campaign: a call of `program` or `begin` with its job, from `start` to `new`, and the later calls
pub record Campaign : Type 1 where
  pub aim : CampaignJob
  pub start : BenchState
  pub new : BenchState
  pub closing : ℕ
  pub end : ℕ
  pub calls : List LaterCall

-- A campaign begins where every file that a stop may leave is free.
pub record IsCampaign (c : Campaign) : Type 0 where
  pub told : IsTold c.start
  pub free : (f : List ℕ) → left (file_half c.start) f → IsFree f
  pub later : c.start.moment ≤ c.end
  pub in_time : c.end ≤ c.new.moment
  pub first : FirstCallStops c.start c.new c.closing c.aim
  pub calls : AllGoOn c.aim c.new c.end c.calls

-- each pair that one of these calls leaves is safe, and each call that answers 0 leaves its goal
abbrev pub AllSafe : BenchState → CampaignJob → Option (List ℕ) → List LaterCall → Type 0
AllSafe start aim last [] = Unit {0}
AllSafe start aim last (call ∷ rest) = IsSafe start aim last call.old call.new call.closing (goal_of aim call.goal)
    × (call.status ≡ 0 → IsDone aim.body (goal_of aim call.goal) call.new)
    × AllSafe start aim (last_at last call.closing (goal_of aim call.goal) call.end) rest

abbrev pub IsSafeCampaign : Campaign → Type 0
IsSafeCampaign c = IsSafe c.start c.aim None c.start c.new c.closing c.aim.laid × AllSafe c.start c.aim (last_at None c.closing c.aim.laid c.end) c.calls
