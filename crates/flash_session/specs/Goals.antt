-- The cells that a session is to reach.
use Rattle.std.specs.Prelude.{ℕ, List}
use Rattle.job_text.specs.Laid.{overlaid}
use Rattle.job_text.specs.Stands.{snapshot_in}
use Rattle.job_text.specs.declared.job.Job.{Job}
use Rattle.flash_session.specs.declared.goal.Goal.{Goal}
use Rattle.flash_session.specs.declared.goal.Goal.TheVariants as goal

-- the goal over a snapshot: the new contents are the job's image laid over it, the old ones are the snapshot itself
abbrev pub laid : Job → Goal → List ℕ → List ℕ
laid j goal.New snapshot = overlaid j.image j.board.regions snapshot
laid j goal.Old snapshot = snapshot

-- the goal of a job, from the snapshot in its file
abbrev pub goal_in : Job → Goal → List ℕ → List ℕ
goal_in j g file = laid j g (snapshot_in j file)
