-- Which cells a call of `program`, `resume` or `revert` may change: those in the sectors and pages of the plans that it prints.
use Rattle.std.specs.Prelude.{◌≡◌, ◌≤◌, ◌⊎◌, ◌++◌, ℕ, Bool, IsTrue, List}
use Rattle.outside_io.specs.Appends.{AppendsPart}
use Rattle.flash_session.specs.Local.{IsInPlans, SameBut}
use Rattle.flash_session.specs.Script.{Planned}
use Rattle.report_text.specs.End.{end_text}
use Rattle.report_text.specs.declared.end.End.TheVariants.{Done}
use Rattle.command_words.specs.Files.{Command, program, resume, revert}
use Rattle.job_commands.specs.Work.{plans_in, plans_shown}
use Rattle.promise.specs.Job.{Job, laid}
use Rattle.promise.specs.Texts.{SaysJob}
use Rattle.promise.specs.Promise.{Call, AtEachStop, EndsOperation, IsIdle, ProgramsJob, TakesUp}
use Rattle.promise.specs.Complete.{IsRight, KeepsDuties}

-- The contents of the output before and after a call, and whether the output shows them.
pub record Printed : Type 0 where
  pub tells : Bool
  pub before : List ℕ
  pub after : List ℕ

abbrev pub printed : Bool → List ℕ → List ℕ → Printed
printed tells before after = record { tells = tells; before = before; after = after }

-- The text of a call that is done: its plans, and the line after them.
abbrev pub text_of : List Planned → List ℕ
text_of plans = plans_shown plans ++ end_text Done

-- A call works on a job by the plans that are chosen for it, from the cells that its session found to a goal. These cells are those of the
-- entry, after an operation that was open then has ended. The call prints a beginning of the plans' text, and all of it with status 0. If
-- the algorithms keep their duties, a stop after the end of that operation leaves each cell as it was found, except in the sectors and
-- pages of the plan of its own region.
pub record WorksByPlan (call : Call) (job : Job) (goal : List ℕ) (out : Printed) : Type 0 where
  pub says : SaysJob job
  pub right : IsRight job says
  pub found : List ℕ
  pub operation : EndsOperation call found
  pub plans : List Planned
  pub chosen : plans ≡ plans_in says.board 0 right.algorithms found goal
  pub prints : IsTrue out.tells → AppendsPart (text_of plans) out.before out.after
  pub done : IsTrue out.tells → call.status ≡ 0 → out.after ≡ out.before ++ text_of plans
  pub local : KeepsDuties job → AtEachStop call (λ moment file cells. operation.end ≤ moment → SameBut (IsInPlans 0 plans) found cells)

-- A call is idle, or works by plans on the job for which it keeps the promise of its command.
abbrev pub KeepsToPlan : Command → Call → Printed → Type 0
KeepsToPlan (program asked) call out = IsIdle call ⊎ ((it : ProgramsJob call asked) × WorksByPlan call it.job (laid it.job) out)
KeepsToPlan resume call out = IsIdle call ⊎ ((it : TakesUp call laid) × WorksByPlan call it.job (laid it.job) out)
KeepsToPlan revert call out = IsIdle call ⊎ ((it : TakesUp call (λ job. job.snapshot)) × WorksByPlan call it.job it.job.snapshot out)
KeepsToPlan _ call out = Unit {0}
