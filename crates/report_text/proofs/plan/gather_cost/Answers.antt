-- `gather_cost`: its contract, `Gathers`.
use Rattle.report_text.specs.Plan.{cost_text}
use Rattle.report_text.proofs.plan.gather_cost.Goals as goal

pub returns : goal.returns
unfolding cost_text
returns g c = rw (c.as_bytes.ensures.value, c.format.ensures.text) at c.add_all.ensures
