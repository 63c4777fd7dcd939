-- What a call of `flmprog` answers, by its command.
use Rattle.std.specs.Prelude.{◌≡◌, ◌⊎◌, Option, Some, None}
use Rattle.report_text.specs.Refusal as refusal
use Rattle.command_words.specs.Words.{Command, program, begin, resume, revert, plan, verify, compare, status, inspect, dump, demo}
use Rattle.command_files.specs.Inputs.{InputsCall, TakesNothing}
use Rattle.command_files.specs.Call.{BenchCall, SinkCall, Call, Answer, refused}
use Rattle.command_files.specs.Answered.{DidNothing, AnswersBy}
use Rattle.demo_job.specs.Command.{DemoEnds}
use Rattle.device_dump.specs.Dump.{DumpEnds}
use Rattle.flash_session.specs.declared.goal.Goal.TheVariants.{New, Old}
use Rattle.job_commands.specs.GoOn.{GoOnEnds}
use Rattle.job_commands.specs.Begin.{BeginEnds}
use Rattle.job_commands.specs.Program.{ProgramEnds}
use Rattle.job_status.specs.Status.{StatusEnds}
use Rattle.flm_cli.specs.Compare.{CompareEnds}
use Rattle.flm_cli.specs.Inspect.{InspectEnds}
use Rattle.flm_cli.specs.Plan.{PlanEnds}
use Rattle.flm_cli.specs.Verify.{VerifyEnds}

-- The work of words that fit no command: `usage`, or out of memory, with nothing done.
pub record EndsUnfit (bench : BenchCall) (inputs : InputsCall) (out : SinkCall) (answer : Answer) : Type 0 where
  pub answer_is : (answer ≡ refused refusal.usage) ⊎ (answer ≡ refused refusal.out_of_memory)
  pub did : DidNothing bench out
  pub takes : TakesNothing inputs

-- the work of a command, or of words that fit no command
abbrev pub EndsOf : Option Command → BenchCall → InputsCall → SinkCall → Answer → Type 0
EndsOf (Some (program files)) = ProgramEnds files
EndsOf (Some (begin files)) = BeginEnds files
EndsOf (Some resume) = GoOnEnds New
EndsOf (Some revert) = GoOnEnds Old
EndsOf (Some (plan files)) = PlanEnds files
EndsOf (Some (verify files)) = VerifyEnds files
EndsOf (Some (compare image)) = CompareEnds image
EndsOf (Some status) = StatusEnds
EndsOf (Some (inspect flm)) = InspectEnds flm
EndsOf (Some (dump form board)) = DumpEnds form board
EndsOf (Some (demo seed)) = DemoEnds seed
EndsOf None = EndsUnfit

-- The call of words that ask for this command, or for none.
abbrev pub Answers : Call → Option Command → Type 0
Answers call asked = AnswersBy call (EndsOf asked)
