-- The parts of a job.
use Rattle.std.specs.Prelude.{◌≡◌, ◌⊎◌, ℕ, IsTrue, List, slice_get, Some, None}
use Rattle.board_file.specs.Shown as board
use Rattle.flm_descriptor.specs.Shown as flm
use Rattle.job_text.specs.Body.{Job, body_of}
use Rattle.job_text.specs.Files.{IsFree, IsWhole}
use Rattle.job_text.specs.Jobs.{IsJob}
use Rattle.job_text.specs.Said.{algorithms_shown}
use Rattle.job_text.specs.Stands.{StandsFor, IsNotAJob, IsDamaged}
use Rattle.job_text.specs.declared.job.Job as code
use Rattle.job_file.specs.Faults.{IsOtherSize}
use Rattle.report_text.specs.Refusal.{out_of_memory, usage, no_job, not_a_job, damaged, cells_differ, store_fault, output_fault}
use Rattle.command_files.specs.Call.{BenchCall, SinkCall, Answer, done, refused}
use Rattle.command_files.specs.Said.{TookNothing}
use Rattle.device_dump.specs.Dump.{text_in}
use Rattle.job_parts.specs.declared.part.Place.{Place}
use Rattle.job_parts.specs.declared.part.Place.TheVariants as place
use Rattle.job_parts.specs.declared.part.Part.{Part}
use Rattle.job_parts.specs.declared.part.Part.TheVariants as part
use Rattle.job_parts.specs.Gives.{OnlyLooks, IsDoneOrFault, IsGiven}
use Rattle.job_parts.specs.Listing.{listing_text}

-- the index of a region: 0 or 1
abbrev pub index_of : Place → ℕ
index_of place.First = 0
index_of place.Second = 1

-- A text is this part of a job with this board and these algorithms. Board, FLM files and snapshot are byte for byte as they
-- were stored. The image is a text that reads back as it.
abbrev pub IsTextOf : Part → Job → board.Shown → List flm.Shown → List ℕ → Type 0
IsTextOf part.Listing j b algorithms text = text ≡ listing_text j b algorithms
IsTextOf part.Board j b algorithms text = text ≡ j.board
IsTextOf (part.Flm p) j b algorithms text = slice_get j.flms (index_of p) ≡ Some text
IsTextOf (part.Image form) j b algorithms text = text ≡ text_in form j.image
IsTextOf part.Snapshot j b algorithms text = text ≡ j.snapshot

-- a job has no such part
abbrev pub IsLacking : Part → Job → Type 0
IsLacking (part.Flm p) j = slice_get j.flms (index_of p) ≡ None
IsLacking _ j = ⊥

-- a file stands for a job, and `Holds` is true of it
pub record OfJob (file : List ℕ) (Holds : Job → board.Shown → List flm.Shown → Type 0) : Type 0 where
  pub job : Job
  pub board : board.Shown
  pub algorithms : List flm.Shown
  pub is : IsJob job board algorithms
  pub whole : IsWhole (body_of job) file
  pub holds : Holds job board algorithms

-- a file stands for a job, and this text is a part of it
abbrev pub IsPartOf : Part → List ℕ → List ℕ → Type 0
IsPartOf p file text = OfJob file (λ j b algorithms. IsTextOf p j b algorithms text)

-- a file stands for a job that has no such part
abbrev pub IsWithout : Part → List ℕ → Type 0
IsWithout p file = OfJob file (λ j b algorithms. IsLacking p j)

-- ---- a job that is open

-- a text is this part of the job for which a file stands, and `Holds` is true of it
pub record IsOfPart (p : Part) (job : code.Job) (file : List ℕ) (stands : StandsFor job file) (Holds : List ℕ → Type 0) : Type 0 where
  pub text : List ℕ
  pub is_text : IsTextOf p stands.text (board.shown job.board) (algorithms_shown job.algorithms) text
  pub holds : Holds text

-- this part of an open job was put, or a beginning of it
pub record PutsPart (p : Part) (job : code.Job) (bench : BenchCall) (out : SinkCall) (answer : Answer) : Type 0 where
  pub kind : IsDoneOrFault answer
  pub given : IsTrue bench.tells → (stands : StandsFor job bench.before.file) → IsTrue out.tells
      → IsOfPart p job bench.before.file stands (λ text. IsGiven out text answer)
  pub looks : OnlyLooks bench out answer

-- an open job has no such part, and nothing was put
pub record LacksPart (p : Part) (job : code.Job) (bench : BenchCall) (out : SinkCall) (answer : Answer) : Type 0 where
  pub answer_is : answer ≡ refused usage
  pub lacks : IsTrue bench.tells → (stands : StandsFor job bench.before.file) → IsLacking p stands.text
  pub nothing : TookNothing out
  pub looks : OnlyLooks bench out answer

abbrev pub GivesPart : Part → code.Job → BenchCall → SinkCall → Answer → Type 0
GivesPart p job bench out answer = PutsPart p job bench out answer ⊎ LacksPart p job bench out answer

-- ---- the call

-- a text is this part of the job for which the file stands, and `Holds` is true of it
pub record WithPart (p : Part) (file : List ℕ) (Holds : List ℕ → Type 0) : Type 0 where
  pub text : List ℕ
  pub is_part : IsPartOf p file text
  pub holds : Holds text

-- the part went to `out`, or a beginning of it where the answer isn't `done`
abbrev pub HasGiven : Part → BenchCall → SinkCall → Answer → Type 0
HasGiven p bench out answer = IsTrue bench.tells → IsTrue out.tells → WithPart p bench.before.file (λ text. IsGiven out text answer)

-- `Holds` is true of the file, and nothing went to `out`
abbrev pub Refuses : BenchCall → SinkCall → Type 0 → Type 0
Refuses bench out Holds = (IsTrue bench.tells → Holds) × TookNothing out

-- When each answer comes, and what goes to `out` with it. A job for a number of cells that the bench doesn't have is refused.
abbrev pub Comes : Part → BenchCall → SinkCall → Answer → Type 0
Comes p bench out done = HasGiven p bench out done
Comes p bench out (refused output_fault) = HasGiven p bench out (refused output_fault)
Comes p bench out (refused store_fault) = TookNothing out ⊎ HasGiven p bench out (refused store_fault)
Comes p bench out (refused out_of_memory) = TookNothing out
Comes p bench out (refused usage) = Refuses bench out (IsWithout p bench.before.file)
Comes p bench out (refused no_job) = Refuses bench out (IsFree bench.before.file)
Comes p bench out (refused (not_a_job at)) = Refuses bench out (IsNotAJob at bench.before.file)
Comes p bench out (refused (damaged kept found)) = Refuses bench out (IsDamaged kept found bench.before.file)
Comes p bench out (refused (cells_differ wanted found)) = Refuses bench out (IsOtherSize bench.before.file bench.before.cell_count wanted found)
Comes p bench out (refused _) = ⊥

-- how a call that reads out a part of a job ends
pub record GiveEnds (p : Part) (bench : BenchCall) (out : SinkCall) (answer : Answer) : Type 0 where
  pub comes : Comes p bench out answer
  pub looks : OnlyLooks bench out answer
