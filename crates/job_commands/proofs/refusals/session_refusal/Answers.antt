-- `session_refusal`: its answer for a job that wasn't opened.
use Rattle.std.proofs.Common.{◌∙◌, sym, ap}
use Rattle.job_commands.specs.Refused.{of_session}
use Rattle.job_commands.proofs.refusals.session_refusal.Goals as goal

pub returns-in-Open : goal.returns-in-Open
returns-in-Open c = c.from.ensures ∙ ap of_session (sym c.in-Open.is)
