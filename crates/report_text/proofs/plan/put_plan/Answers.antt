-- `put_plan`: its contract, `Puts`.
use Rattle.std.proofs.Common.{append-nil}
use Rattle.outside_io.proofs.PutTexts.{puts_as}
use Rattle.outside_io.proofs.GatherLemmas.{gathers_alone, gathers_then, gathers_waiting}
use Rattle.report_text.proofs.plan.put_plan.Goals as goal

pub returns : goal.returns
returns g c = puts_as (append-nil _)
    (gathers_alone _ c.new-text.ensures c.put.ensures.none (gathers_then _ c.in_ok-gather_plan.ensures
    (gathers_waiting _ c.put.ensures.none c.put.ensures.puts)))
