-- What `program` and `begin` have in common: the files of a command describe a job, with an FLM file for each region of the board, and
-- the job is begun over a free file.
use Rattle.std.specs.Prelude.{◌≡◌, ◌≢◌, ◌≤◌, ◌⊎◌, ℕ, Bool, true, IsTrue, IsSome, All, List, length}
use Rattle.board_file.specs.Limits.{size_of}
use Rattle.job_text.specs.Files.{IsFree}
use Rattle.job_text.specs.Body.{Job}
use Rattle.job_text.specs.declared.format.Format.TheVariants.{Second}
use Rattle.job_text.specs.Stands.{IsSomeJob, IsDamaged, IsNotAJob}
use Rattle.report_text.specs.Refusal.{Refusal, out_of_memory, job_open, not_a_job, damaged, cells_differ}
use Rattle.command_words.specs.Files.{FilesAsked, names_in}
use Rattle.command_files.specs.Inputs.{InputsCall, FilesGiven, Given}
use Rattle.command_files.specs.Files.{flm_files, Aim}
use Rattle.command_files.specs.Call.{BenchCall, SinkCall, Answer, refused}
use Rattle.command_files.specs.Answered.{EndsLawfully, Refuses, DidNothing, OnlyLooked, on_job_file}
use Rattle.command_files.specs.Reading.{AnswersFiles, WantAnAim}
use Rattle.job_commands.specs.Answers.{is_of_work, is_of_free, IsSound}

-- A command has FLM files, and no text of its job is longer than a file that can be taken.
pub record HasTexts (files : FilesGiven) (aim : Aim) : Type 0 where
  pub has_flm : IsSome files.flm
  pub short_board : length files.board ≤ 67108864
  pub short_flms : All (λ (file : List ℕ). length file ≤ 67108864) (flm_files files.flm files.images aim.board)

-- the job of a command's files with this snapshot, in the second format, with the FLM file of each region
abbrev pub job_for : FilesGiven → Aim → List ℕ → Job
job_for files aim snapshot =
    record { format = Second; board = files.board; flms = flm_files files.flm files.images aim.board; image = aim.image; snapshot = snapshot }

-- What is answered, by what the job file is; this comes before the number of cells. A file that isn't free is refused. So is a job for
-- another number of cells than there are. In both cases file and cells were only looked at. Over a free file the job is begun, and
-- `Begins` holds of it.
pub record OverFile (bench : BenchCall) (out : SinkCall) (size : ℕ) (answer : Answer) (Known : Type 0) (Begins : Known → Type 0) : Type 0 where
  -- a job was begun only where the file was free, with status 0 too
  pub free : is_of_free answer ≡ true → IsFree bench.before.file
  pub some_job : IsSomeJob bench.before.file → Refuses (OnlyLooked bench out) answer job_open
  pub not_job : (at : ℕ) → IsNotAJob at bench.before.file → Refuses (OnlyLooked bench out) answer (not_a_job at)
  pub is_damaged : (kept found : List ℕ) → IsDamaged kept found bench.before.file → Refuses (OnlyLooked bench out) answer (damaged kept found)
  pub other_size : IsFree bench.before.file → size ≢ bench.before.cell_count
      → Refuses (OnlyLooked bench out) answer (cells_differ size bench.before.cell_count)
  pub begins : (known : Known) → IsFree bench.before.file → size ≡ bench.before.cell_count → Begins known

-- What follows for files that are right, where the bench tells its contents. Their job is for as many cells as the regions have, and
-- `Begins` holds of it where it is begun.
abbrev pub BeginsFor : (BenchCall → SinkCall → FilesGiven → Aim → Answer → Type 0) → BenchCall → SinkCall → Answer → FilesGiven → Aim → Type 0
BeginsFor Begins bench out answer files aim =
    IsTrue bench.tells → OverFile bench out (size_of aim.board.regions) answer (HasTexts files aim) (λ has. Begins bench out files aim answer)

-- What an answer of the work shows, on every bench. There were FLM files, and the texts of the job were short enough to be taken. A job
-- was begun only on as many cells as the regions have. The two bytes of a mismatch and the two hashes differ. What was printed is what
-- the answer prints for that number of cells. The work was on that job.
pub record ShowsJob (Prints : ℕ → SinkCall → Answer → Type 0) (Begins : BenchCall → SinkCall → FilesGiven → Aim → Answer → Type 0)
    (bench : BenchCall) (out : SinkCall) (answer : Answer) (files : FilesGiven) (aim : Aim) : Type 0 where
  pub has_texts : HasTexts files aim
  pub sized : is_of_work answer ≡ true → size_of aim.board.regions ≡ bench.before.cell_count
  pub sound : IsSound answer
  pub prints : Prints bench.before.cell_count out answer
  pub works : BeginsFor Begins bench out answer files aim

-- `OutOfMemory` comes before any work, with nothing done, or during the work on what the files want.
abbrev pub WantsMemory : (ℕ → SinkCall → Answer → Type 0) → (BenchCall → SinkCall → FilesGiven → Aim → Answer → Type 0)
    → FilesAsked → BenchCall → InputsCall → SinkCall → Type 0
WantsMemory Prints Begins asked bench inputs out =
    DidNothing bench out ⊎ Given inputs asked (WantAnAim asked (ShowsJob Prints Begins bench out (refused out_of_memory)))

-- The work of a command with these refusals, this output and this beginning of a job: all but the status and the line on `err`.
pub record EndsOnJob (has : Refusal → Bool) (Prints : ℕ → SinkCall → Answer → Type 0) (Begins : BenchCall → SinkCall → FilesGiven → Aim → Answer → Type 0)
    (asked : FilesAsked) (bench : BenchCall) (inputs : InputsCall) (out : SinkCall) (answer : Answer) : Type 0 where
  pub lawful : EndsLawfully on_job_file bench inputs out has (names_in asked) answer
  pub files : AnswersFiles bench inputs out asked answer (ShowsJob Prints Begins bench out answer) (BeginsFor Begins bench out answer)
  pub memory : answer ≡ refused out_of_memory → WantsMemory Prints Begins asked bench inputs out
