-- `put_regions`: its contract, `Puts`, and that its loop keeps its invariant.
use Rattle.std.proofs.Common.{ap, arith}
use Rattle.std.proofs.lemmas.Grind.{common_steps}
use Rattle.job_parts.specs.Board.{region_text}
use Rattle.outside_io.proofs.PutTexts.{puts_as, puts_nothing, puts_more, puts_breaks, puts_failed}
use Rattle.job_parts.proofs.board.put_regions.Goals as goal

pub loop-region-init : goal.loop-region-init
loop-region-init g c = puts_nothing _ _ _

pub loop-region-preserved : goal.loop-region-preserved
loop-region-preserved g c =
    let a = c.region-item.result in
    puts_more region_text _ _ a c.loop-region-test.true c.loop-region.invariant (puts_as (ap (region_text) c.region-item.is) c.in_ok-put_region.ensures)

pub returns-in_err-put_region : goal.returns-in_err-put_region
returns-in_err-put_region g c =
    let a = c.region-item.result in
    puts_failed _ c.from_residual.ensures.0
    (puts_breaks region_text _ _ a c.loop-region-test.true c.loop-region.invariant (puts_as (ap (region_text) c.region-item.is) c.in_err-put_region.ensures))

pub returns : goal.returns
returns g c = grind (arith, common_steps)
