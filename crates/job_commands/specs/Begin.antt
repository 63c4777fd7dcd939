-- What `begin [--raw-at ADDR] BOARD FLM... IMAGE...` answers: a job is begun, and nothing else is done. No cell changes but in the range
-- of an operation that was open at entry.
use Rattle.std.specs.Prelude.{◌≡◌, ◌⊎◌, ℕ, List, None, Bool, true, false}
use Rattle.bench_model.specs.History.{LeftOnly}
use Rattle.bench_model.specs.State.{BenchState, file_half}
use Rattle.bench_model.specs.Pairs.{PairsLeave}
use Rattle.job_text.specs.Files.{IsWhole}
use Rattle.job_text.specs.Body.{Job, body_of}
use Rattle.job_text.specs.Jobs.{IsJob}
use Rattle.campaign.specs.Stops.{IsUntouched}
use Rattle.report_text.specs.End.{end_text}
use Rattle.report_text.specs.declared.end.End.TheVariants.{Begun}
use Rattle.report_text.specs.Refusal.{out_of_memory, input_fault, store_fault, device_fault, output_fault, Refusal, usage, board_refused, flm_refused}
use Rattle.report_text.specs.Refusal.{other_device, no_room, image_refused, image_misplaced, job_open, not_a_job, damaged, cells_differ}
use Rattle.command_words.specs.Files.{FilesAsked}
use Rattle.command_files.specs.Inputs.{InputsCall, FilesGiven}
use Rattle.command_files.specs.Files.{Aim}
use Rattle.command_files.specs.Call.{BenchCall, SinkCall, Call, Answer, done, refused}
use Rattle.command_files.specs.Said.{TookAll, TookPart, PrintsText}
use Rattle.command_files.specs.Answered.{AnswersBy, OnlyLooked}
use Rattle.job_commands.specs.Carry.{IsAsEntered, EndsInBegin, NeverBegun, BrokenOff}
use Rattle.job_commands.specs.Beginning.{job_for, EndsOnJob}

-- the line that is printed after a job was begun
abbrev pub begun_text : List ℕ
begun_text = end_text Begun

-- The job was begun: the file stands for it, also after a stop, no operation is open, and the cells are its snapshot.
pub record HasBegun (now : BenchState) (job : Job) : Type 0 where
  pub file : IsWhole (body_of job) now.file
  pub only : LeftOnly now.file (file_half now)
  pub idle : now.operation ≡ None
  pub cells : now.cells ≡ job.snapshot

-- When each answer of the beginning comes, and what then holds of file, cells and output; `text` is printed once the job is begun. Out of
-- memory, the file was only looked at. A fault of the store or the device leaves the file free, or standing for the job. A fault of the
-- device comes before the gate is opened. A file that couldn't be taken comes before all work; other clauses say so.
abbrev pub BegunComes : BenchCall → SinkCall → List ℕ → Job → Answer → Type 0
BegunComes bench out text job done = HasBegun bench.after job × TookAll out text
BegunComes bench out text job (refused out_of_memory) = OnlyLooked bench out
BegunComes bench out text job (refused (input_fault name)) = Unit {0}
BegunComes bench out text job (refused store_fault) = EndsInBegin bench out (body_of job)
BegunComes bench out text job (refused device_fault) = EndsInBegin bench out (body_of job) × NeverBegun bench
BegunComes bench out text job (refused output_fault) = HasBegun bench.after job × TookPart out text
BegunComes bench out text job (refused _) = ⊥

-- A job is begun, from entry to exit. The snapshot is the cells of the entry, after an operation open then was broken off; from there on
-- the cells stay as they are. A stop leaves the pair untouched, or its file whole.
pub record BeginsAlone (bench : BenchCall) (out : SinkCall) (text : List ℕ) (job : Job) (answer : Answer) : Type 0 where
  pub surveyed : IsAsEntered bench job.snapshot
  pub comes : BegunComes bench out text job answer
  pub pairs : PairsLeave bench.before bench.after (λ f c. IsUntouched bench.before f c ⊎ IsWhole (body_of job) f)
  pub broken_off : BrokenOff bench.before bench.after job.snapshot

-- The job of a command's files is begun.
pub record Starts (bench : BenchCall) (out : SinkCall) (files : FilesGiven) (aim : Aim) (answer : Answer) : Type 0 where
  pub snapshot : List ℕ
  pub is_job : IsJob (job_for files aim snapshot) aim.board aim.algorithms
  pub begins : BeginsAlone bench out begun_text (job_for files aim snapshot) answer

-- What `begin` prints: its line where it is done.
abbrev pub PrintsBegun : ℕ → SinkCall → Answer → Type 0
PrintsBegun count out answer = PrintsText out begun_text answer

-- Which refusals `begin` has.
abbrev pub has_begin : Refusal → Bool
has_begin out_of_memory = true
has_begin usage = true
has_begin (input_fault name) = true
has_begin (board_refused fault) = true
has_begin (flm_refused fault) = true
has_begin (other_device base size) = true
has_begin (no_room need have) = true
has_begin (image_refused name fault) = true
has_begin (image_misplaced fault) = true
has_begin job_open = true
has_begin (not_a_job at) = true
has_begin (damaged kept found) = true
has_begin (cells_differ wanted found) = true
has_begin store_fault = true
has_begin device_fault = true
has_begin output_fault = true
has_begin _ = false

-- The work of `begin`: all but the status and the line on `err`.
abbrev pub BeginEnds : FilesAsked → BenchCall → InputsCall → SinkCall → Answer → Type 0
BeginEnds asked bench inputs out answer = EndsOnJob has_begin PrintsBegun Starts asked bench inputs out answer

-- a call of `begin`, with its status and its line on `err`
abbrev pub BeginAnswers : FilesAsked → Call → Type 0
BeginAnswers asked call = AnswersBy call (BeginEnds asked)
