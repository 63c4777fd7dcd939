-- `put_named`: its contract, `Puts`.
use Rattle.outside_io.proofs.PutTexts.{puts_then, puts_stops, puts_failed}
use Rattle.flm_cli.proofs.plan.put_named.Goals as goal

pub returns-in_err-put_region : goal.returns-in_err-put_region
returns-in_err-put_region g c = puts_failed _ c.from_residual.ensures.0 (puts_stops _ c.in_err-put_region.ensures)

pub returns : goal.returns
returns g c = puts_then _ c.in_ok-put_region.ensures c.put_plan.ensures
