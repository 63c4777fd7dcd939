-- What a target with a job leaves on its bench, and how a target ends otherwise.
use Rattle.std.specs.Prelude.{◌≡◌, ◌≢◌, ◌⊎◌, ◌<◌, ℕ, true, IsSome, List, Some, None}
use Rattle.bench_model.specs.declared.bench.Bench.{Ghosts}
use Rattle.bench_model.specs.State.{BenchState}
use Rattle.board_file.specs.Limits.{size_of}
use Rattle.board_file.specs.Shown as board
use Rattle.job_text.specs.Files.{IsFree}
use Rattle.job_text.specs.Body as text
use Rattle.job_text.specs.Body.{body_of}
use Rattle.job_text.specs.Stands.{StandsFor, IsSomeJob, IsDamaged, IsNotAJob}
use Rattle.job_text.specs.declared.job.Job.{Job}
use Rattle.job_file.specs.declared.fault.OpenFault.{OpenFault}
use Rattle.job_file.specs.declared.fault.OpenFault.TheVariants as opening
use Rattle.campaign.specs.Stops.{CampaignJob}
use Rattle.campaign.specs.Campaign.{WorkStops}
use Rattle.flash_session.specs.declared.fault.SessionFault.TheVariants as session
use Rattle.flash_session.specs.declared.goal.Goal.TheVariants.{New}
use Rattle.flash_session.specs.Goals.{goal_in}
use Rattle.flash_session.specs.Opened.{IsJobOf, IsSessionFault, IsSoundSession}
use Rattle.flash_session.specs.Plays.{IsNotDone}
use Rattle.job_text.specs.Laid.{overlaid}
use Rattle.flash_session.specs.Sessions.{job_legs}
use Rattle.flash_session.specs.Starts.{job_start}
use Rattle.flash_session.specs.Surveys.{Surveyed, HasSurveyed}
use Rattle.readback.specs.declared.compare.Difference.{Difference}
use Rattle.flash_session.specs.declared.target_end.TargetEnd.{TargetEnd}
use Rattle.flash_session.specs.declared.target_end.TargetEnd.TheVariants as ended
use Rattle.flash_session.specs.Alone.{FollowsAs}
use Rattle.flash_session.specs.Guarded.{FileEnd, has_no_close}
use Rattle.gang_run.specs.Opening.{IsLookedAt}
use Rattle.gang_run.specs.Slots.{OpensWithMemory, HasMemory}
use Rattle.job_text.specs.Laid.{address_at}
use Rattle.gang_commands.specs.Lines.{Outcome}

-- the part of a job that a campaign speaks of: its body, its snapshot, and its image over the snapshot
abbrev pub aim_of : text.Job → board.Shown → CampaignJob
aim_of job b = record { body = body_of job; laid = overlaid job.image b.regions job.snapshot; snapshot = job.snapshot }

-- A job was opened and surveyed on its bench, which was then as `begun`, and its own script was carried to this end.
pub record Carries {B : Type 0} (G : Ghosts B) (s : BenchState) (x : Outcome) (t : BenchState) : Type 0 where
  pub begun : B
  pub looked : IsLookedAt G.tells s (G.state begun)
  pub idle : (G.state begun).operation ≡ None
  -- the job, in memory
  pub job : Job
  pub stands : StandsFor job s.file
  pub sized : size_of job.board.regions ≡ s.cell_count
  pub regions : x.regions ≡ Some job.board.regions
  pub surveyed : Surveyed
  pub found : HasSurveyed G.tells job New s.file (G.state begun).cells surveyed
  -- the end, the cells and each moment are an outcome of the job's script from the cells as surveyed; the end Done means that the goal is
  -- reached
  pub follows : FollowsAs (job_legs job surveyed s.file) (goal_in job New s.file) (job_start job (G.state begun).cells) x.end (G.state begun) t
  -- a cell that differs has an address
  pub address : (d : Difference) → x.end ≡ ended.Mismatch d → IsSome (address_at job.board.regions d.at)
  -- the file stands for the job; where the target is done, the job is closed
  pub file : FileEnd (body_of stands.text) x.end t.file
  pub closed : x.end ≡ ended.Done → t.operation ≡ None
  -- Before the target's close a stop leaves what one at entry may leave, or the whole job. From the close on it leaves the job whole or
  -- closed, with the cells at the goal. A target that ends by a device fault, a failed call or a mismatch never reaches its close.
  pub turn : ℕ
  pub no_close : has_no_close x.end ≡ true → t.moment < turn
  pub stops : WorkStops s t turn (body_of stands.text) (overlaid job.image job.board.regions stands.text.snapshot)

-- The end of a target on a bench that tells its contents. A bench whose job wasn't opened or surveyed was only looked at. The reason of the
-- refusal follows from its file as read and its number of cells.
abbrev pub Comes : {B : Type 0} → Ghosts B → BenchState → Outcome → BenchState → TargetEnd → Type 0
Comes G s x t ended.Done = Carries G s x t
Comes G s x t (ended.Open fault) = IsLookedAt G.tells s t × IsSessionFault s.file s.cell_count fault
Comes G s x t (ended.Survey fault) = IsLookedAt G.tells s t × IsJobOf s.file s.cell_count
Comes G s x t (ended.CallFailed number call e) = Carries G s x t
Comes G s x t (ended.Mismatch d) = Carries G s x t
Comes G s x t ended.StoreFault = Carries G s x t
Comes G s x t ended.DeviceFault = Carries G s x t

-- the job wasn't opened, for this reason or because the file couldn't be read
abbrev pub IsRefusedBy : TargetEnd → OpenFault → Type 0
IsRefusedBy e fault = (e ≡ ended.Open (session.Open fault)) ⊎ (e ≡ ended.Open (session.Open opening.StoreFault))

-- What the file is decides the end. A free file, a file that is no job, a damaged job and a job of another size are each refused for that
-- reason.
pub record ComesBy (s : BenchState) (e : TargetEnd) : Type 0 where
  pub free : IsFree s.file → IsRefusedBy e opening.NoJob
  pub not_job : (at : ℕ) → IsNotAJob at s.file → IsRefusedBy e (opening.NotAJob at)
  pub is_damaged : (kept found : List ℕ) → IsDamaged kept found s.file → IsRefusedBy e (opening.Damaged kept found)
  pub other_size : (some : IsSomeJob s.file) → size_of some.board.regions ≢ s.cell_count
      → IsRefusedBy e (opening.CellsDiffer (size_of some.board.regions) s.cell_count)

-- What an end says by itself, on every bench. Memory didn't run out. Numbers of cells or hashes that are reported as different differ. A
-- failed call has a number, and was neither done nor broken off by a device fault. The two bytes of a mismatch differ.
abbrev pub IsSound : ℕ → TargetEnd → Type 0
IsSound count ended.Done = Unit {0}
IsSound count (ended.Open fault) = OpensWithMemory fault × IsSoundSession count fault
IsSound count (ended.Survey fault) = HasMemory fault
IsSound count (ended.CallFailed number call e) = IsNotDone number e
IsSound count (ended.Mismatch d) = d.want ≢ d.got
IsSound count ended.StoreFault = Unit {0}
IsSound count ended.DeviceFault = Unit {0}
