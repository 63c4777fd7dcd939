-- What `program [--raw-at ADDR] BOARD FLM... IMAGE...` answers: a job is begun, and carried to its image.
use Rattle.std.specs.Prelude.{List, ℕ, Bool, true, false}
use Rattle.job_text.specs.Jobs.{IsJob}
use Rattle.campaign.specs.Stops.{IsUntouched}
use Rattle.flash_session.specs.declared.goal.Goal.TheVariants.{New}
use Rattle.report_text.specs.Refusal.{Refusal, out_of_memory, usage, input_fault, board_refused, flm_refused, other_device, no_room, image_refused}
use Rattle.report_text.specs.Refusal.{image_misplaced, job_open, not_a_job, damaged, cells_differ, store_fault, device_fault, output_fault, call_failed}
use Rattle.report_text.specs.Refusal.{mismatch}
use Rattle.command_words.specs.Files.{FilesAsked}
use Rattle.command_files.specs.Inputs.{InputsCall, FilesGiven}
use Rattle.command_files.specs.Files.{Aim}
use Rattle.command_files.specs.Call.{BenchCall, SinkCall, Call, Answer}
use Rattle.command_files.specs.Answered.{AnswersBy}
use Rattle.job_commands.specs.Carry.{Carries}
use Rattle.job_commands.specs.Printed.{PrintsWork}
use Rattle.job_commands.specs.GoOn.{work_to}
use Rattle.job_commands.specs.Beginning.{job_for, EndsOnJob}

-- A job is begun, and carried to its image. Its snapshot is the cells as surveyed.
pub record Begins (bench : BenchCall) (out : SinkCall) (files : FilesGiven) (aim : Aim) (answer : Answer) : Type 0 where
  pub snapshot : List ℕ
  pub is_job : IsJob (job_for files aim snapshot) aim.board aim.algorithms
  pub carries : Carries bench out (IsUntouched bench.before) (work_to New (job_for files aim snapshot) aim.board aim.algorithms snapshot) answer

-- Which refusals `program` has.
abbrev pub has_program : Refusal → Bool
has_program out_of_memory = true
has_program usage = true
has_program (input_fault name) = true
has_program (board_refused fault) = true
has_program (flm_refused fault) = true
has_program (other_device base size) = true
has_program (no_room need have) = true
has_program (image_refused name fault) = true
has_program (image_misplaced fault) = true
has_program job_open = true
has_program (not_a_job at) = true
has_program (damaged kept found) = true
has_program (cells_differ wanted found) = true
has_program store_fault = true
has_program device_fault = true
has_program output_fault = true
has_program (call_failed number call end) = true
has_program (mismatch at wanted found) = true
has_program _ = false

-- The work of `program`: all but the status and the line on `err`.
abbrev pub ProgramEnds : FilesAsked → BenchCall → InputsCall → SinkCall → Answer → Type 0
ProgramEnds asked bench inputs out answer = EndsOnJob has_program PrintsWork Begins asked bench inputs out answer

-- a call of `program`, with its status and its line on `err`
abbrev pub ProgramAnswers : FilesAsked → Call → Type 0
ProgramAnswers asked call = AnswersBy call (ProgramEnds asked)
