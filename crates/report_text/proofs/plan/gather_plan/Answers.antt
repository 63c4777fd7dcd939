-- `gather_plan`: its contract, `Gathers`.
use Rattle.report_text.specs.Plan.{plan_text}
use Rattle.outside_io.proofs.GatherLemmas.{gathers_then, gathers_stops, gathers_failed}
use Rattle.report_text.proofs.plan.gather_plan.Goals as goal

pub returns-in_err-gather_kind : goal.returns-in_err-gather_kind
unfolding plan_text
returns-in_err-gather_kind g c = gathers_failed _ c.from_residual.ensures.0 (gathers_stops _ (gathers_stops _ (gathers_stops _ c.in_err-gather_kind.ensures)))

pub returns-in_err-gather_erasures : goal.returns-in_err-gather_erasures
unfolding plan_text
returns-in_err-gather_erasures g c = gathers_failed _ c.from_residual-in_err-gather_erasures.ensures.0
    (gathers_stops _ (gathers_stops _ (gathers_then _ c.in_ok-gather_kind.ensures c.in_err-gather_erasures.ensures)))

pub returns-in_err-gather_pages : goal.returns-in_err-gather_pages
unfolding plan_text
returns-in_err-gather_pages g c = gathers_failed _ c.from_residual-in_err-gather_pages.ensures.0
    (gathers_stops _ (gathers_then _ (gathers_then _ c.in_ok-gather_kind.ensures c.in_ok-gather_erasures.ensures) c.in_err-gather_pages.ensures))

pub returns : goal.returns
unfolding plan_text
returns g c = rw c.cost.ensures at
    (gathers_then _ (gathers_then _ (gathers_then _ c.in_ok-gather_kind.ensures c.in_ok-gather_erasures.ensures) c.in_ok-gather_pages.ensures)
    c.gather_cost.ensures)
