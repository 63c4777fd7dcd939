-- What the end of a gang's target says of its bench.
use Rattle.std.specs.Prelude.{◌≡◌, ◌⊎◌, ◌<◌, ◌≤◌, ℕ, IsTrue, List, length, get_or}
use Rattle.faults.specs.Counts.{Rose}
use Rattle.bench_model.specs.declared.bench.Bench.{Ghosts}
use Rattle.bench_model.specs.Counted.{is_store_fault, is_device_fault, IsCounted}
use Rattle.bench_model.specs.Pairs.{PairsLeave}
use Rattle.bench_model.specs.State.{BenchState, Left}
use Rattle.board_file.specs.Limits.{size_of}
use Rattle.board_file.specs.Shown as board
use Rattle.flm_descriptor.specs.Shown as flm
use Rattle.algo_calls.specs.Duties.{AllServe}
use Rattle.job_text.specs.Body.{Job, body_of}
use Rattle.job_text.specs.Jobs.{IsJob}
use Rattle.job_text.specs.Files.{IsFree, IsWhole}
use Rattle.job_text.specs.Stands.{IsSomeJob}
use Rattle.campaign.specs.Campaign as campaign
use Rattle.campaign.specs.Campaign.{Keeps}
use Rattle.campaign.specs.Stops.{IsDone}
use Rattle.flash_session.specs.Turns.{target_fault}
use Rattle.gang_commands.specs.Lines.{Outcome}
use Rattle.gang_commands.specs.Works.{aim_of, Comes, ComesBy, IsSound}

-- what the end of one target says of its bench, from the entry of the call to its exit
pub record EndsOn {B : Type 0} (G : Ghosts B) (s : BenchState) (x : Outcome) (t : BenchState) : Type 0 where
  pub sound : IsSound s.cell_count x.end
  -- a fault was counted only where it is the end, and is the end only where its count rose
  pub store : IsCounted s.store_faults t.store_faults (is_store_fault (target_fault x.end))
  pub device : IsCounted s.device_faults t.device_faults (is_device_fault (target_fault x.end))
  pub comes : IsTrue G.tells → Comes G s x t x.end
  pub comes_by : IsTrue G.tells → ComesBy s x.end

abbrev pub AllEndOn : {B : Type 0} → Ghosts B → List B → List Outcome → List B → Type 0
AllEndOn {B} G benches ends benches' = (i : ℕ) (d : B) (x : Outcome) → i < length benches → EndsOn G (G.state (get_or benches i d)) (get_or ends i x)
    (G.state (get_or benches' i d))

-- ---- what follows for each bench

-- the job that a bench held at entry is done at exit
pub record HasFinished (s t : BenchState) : Type 0 where
  pub job : Job
  pub board : board.Shown
  pub algorithms : List flm.Shown
  pub is : IsJob job board algorithms
  pub stood : IsWhole (body_of job) s.file
  pub done : IsDone (body_of job) (aim_of job board).laid t

abbrev pub AllFinished : {B : Type 0} → Ghosts B → List B → List B → Type 0
AllFinished {B} G benches benches' = (i : ℕ) (d : B) → i < length benches → HasFinished (G.state (get_or benches i d)) (G.state (get_or benches' i d))

-- the call of a gang, seen as a call of `resume` on this bench: its close begins at `turn`, and it ended or was stopped at `end`
abbrev pub as_resume : ℕ → BenchState → BenchState → ℕ → ℕ → campaign.LaterCall
as_resume status s t turn end = record { goal = campaign.resume; old = s; new = t; status = status; closing = turn; end = end }

-- The call keeps what a campaign of each job asks for. A bench whose file stands for no job is left as a stop at entry may leave it.
pub record KeepsOn (status : ℕ) (s t : BenchState) : Type 0 where
  pub keeps : (job : Job) (b : board.Shown) (algorithms : List flm.Shown) → IsJob job b algorithms → IsFree s.file ⊎ IsWhole (body_of job) s.file
      → (turn : ℕ) × ((end : ℕ) → s.moment ≤ end → end ≤ t.moment → Keeps (aim_of job b) (as_resume status s t turn end))
  pub idle : (IsSomeJob s.file → ⊥) → PairsLeave s t (Left s)

abbrev pub AllKeep : {B : Type 0} → Ghosts B → ℕ → List B → List B → Type 0
AllKeep {B} G status benches benches' = (i : ℕ) (d : B) → i < length benches → KeepsOn status (G.state (get_or benches i d)) (G.state (get_or benches' i d))

-- ---- jobs whose algorithms keep their duties

-- the file of a bench stands for a job with as many cells as the bench has, and each region of its board has an algorithm that keeps its
-- duties
pub record IsServed (b : BenchState) : Type 0 where
  pub some : IsSomeJob b.file
  pub size : size_of some.board.regions ≡ b.cell_count
  pub serves : AllServe some.board some.algorithms

abbrev pub AllServed : {B : Type 0} → Ghosts B → List B → Type 0
AllServed {B} G benches = (i : ℕ) (d : B) → i < length benches → IsServed (G.state (get_or benches i d))

-- no fault was counted
pub record NoneRose (s t : BenchState) : Type 0 where
  pub store : Rose s.store_faults t.store_faults → ⊥
  pub device : Rose s.device_faults t.device_faults → ⊥

abbrev pub NoneRoseIn : {B : Type 0} → Ghosts B → List B → List B → Type 0
NoneRoseIn {B} G benches benches' = (i : ℕ) (d : B) → i < length benches → NoneRose (G.state (get_or benches i d)) (G.state (get_or benches' i d))
