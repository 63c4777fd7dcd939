-- What a job file stands for, in terms of the format alone.
use Rattle.std.specs.Prelude.{◌≡◌, ◌≢◌, ◌≤◌, ℕ, List, [], ◌∷◌, length, take, drop}
use Rattle.sha2.specs.Sha256.{sha256}
use Rattle.board_file.specs.Shown as board
use Rattle.flm_descriptor.specs.Shown as flm
use Rattle.job_text.specs.declared.job.Class.{Class}
use Rattle.job_text.specs.declared.job.Class.TheVariants.{Free, Stands, Damaged, NotAJob}
use Rattle.job_text.specs.declared.job.Job as code
use Rattle.job_text.specs.Files.{IsFree, IsWhole, open_gate}
use Rattle.job_text.specs.Said.{algorithms_shown}
use Rattle.job_text.specs.Body.{Job, second_mark, body_of}
use Rattle.job_text.specs.Jobs.{IsJob}
use Rattle.job_text.specs.Reading.{class_of, not_a_job}

-- the snapshot of a job, in its file
abbrev pub snapshot_in : code.Job → List ℕ → List ℕ
snapshot_in job file = drop job.snapshot_at file

-- the file stands for a job, and it is this job in memory
pub record StandsFor (job : code.Job) (file : List ℕ) : Type 0 where
  pub text : Job
  pub is : IsJob text (board.shown job.board) (algorithms_shown job.algorithms)
  pub whole : IsWhole (body_of text) file
  pub image : text.image ≡ job.image
  pub snapshot : text.snapshot ≡ snapshot_in job file

-- the file stands for a job, given here with its board and its algorithms
pub record IsSomeJob (file : List ℕ) : Type 0 where
  pub job : Job
  pub board : board.Shown
  pub algorithms : List flm.Shown
  pub is : IsJob job board algorithms
  pub whole : IsWhole (body_of job) file

-- the file stands for no job, and isn't free
pub record IsNoJob (file : List ℕ) : Type 0 where
  pub not_free : IsFree file → ⊥
  pub no_job : (j : Job) (b : board.Shown) (algorithms : List flm.Shown) → IsJob j b algorithms → IsWhole (body_of j) file → ⊥

-- The file is damaged. It has an open gate, the mark of format 2, and at least 64 bytes, and the hash that it keeps isn't that of its
-- bytes from 40 on.
pub record IsDamaged (kept found file : List ℕ) : Type 0 where
  pub gate : take 1 file ≡ open_gate ∷ []
  pub mark : take 7 (drop 1 file) ≡ second_mark
  pub long : 64 ≤ length file
  pub kept_is : kept ≡ take 32 (drop 8 file)
  pub found_is : found ≡ sha256 (drop 40 file)
  pub differ : kept ≢ found

-- the file isn't free, isn't damaged and stands for no job; the offset shows the first check that fails
pub record IsNotAJob (at : ℕ) (file : List ℕ) : Type 0 where
  pub shows : class_of file ≡ not_a_job at
  pub none : IsNoJob file
  pub whole : (kept found : List ℕ) → IsDamaged kept found file → ⊥

-- the file is damaged, and stands for no job
pub record IsFoundDamaged (kept found file : List ℕ) : Type 0 where
  pub damaged : IsDamaged kept found file
  pub none : IsNoJob file

abbrev pub IsClassOf : Class → List ℕ → Type 0
IsClassOf Free file = IsFree file
IsClassOf (Stands job) file = StandsFor job file
IsClassOf (Damaged damage) file = IsFoundDamaged damage.kept damage.found file
IsClassOf (NotAJob at) file = IsNotAJob at file
