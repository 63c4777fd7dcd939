-- `put_items`: its contract, `Puts`, and that its loop keeps its invariant.
use Rattle.std.proofs.Common.{arith}
use Rattle.std.proofs.lemmas.Grind.{common_steps}
use Rattle.outside_io.proofs.PutTexts.{puts_nothing, puts_more, puts_breaks, puts_failed}
use Rattle.report_text.specs.Inspection.{item_text}
use Rattle.report_text.proofs.inspection.put_items.Goals as goal

pub loop-item-init : goal.loop-item-init
loop-item-init g c = puts_nothing _ _ _

pub loop-item-preserved : goal.loop-item-preserved
loop-item-preserved g c = puts_more item_text _ _ _ c.loop-item-test.true c.loop-item.invariant c.in_ok-put_item.ensures

pub returns-in_err-put_item : goal.returns-in_err-put_item
returns-in_err-put_item g c = puts_failed _ c.from_residual.ensures.0
    (puts_breaks item_text _ _ _ c.loop-item-test.true c.loop-item.invariant c.in_err-put_item.ensures)

pub returns : goal.returns
returns g c = grind (arith, common_steps)
