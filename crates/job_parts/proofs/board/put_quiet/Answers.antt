-- `put_quiet`: its contract, `Puts`, and that its loop keeps its invariant.
use Rattle.std.proofs.Common.{arith}
use Rattle.std.proofs.lemmas.Grind.{common_steps}
use Rattle.job_parts.specs.Board.{quiet_line}
use Rattle.outside_io.proofs.PutTexts.{puts_nothing, puts_more, puts_breaks, puts_failed}
use Rattle.job_parts.proofs.board.put_quiet.Goals as goal

pub loop-range-init : goal.loop-range-init
loop-range-init g c = puts_nothing _ _ _

pub loop-range-preserved : goal.loop-range-preserved
loop-range-preserved g c =
    puts_more quiet_line _ _ _ c.loop-range-test.true c.loop-range.invariant c.in_ok-put_range.ensures

pub returns-in_err-put_range : goal.returns-in_err-put_range
returns-in_err-put_range g c =
    puts_failed _ c.from_residual.ensures.0
    (puts_breaks quiet_line _ _ _ c.loop-range-test.true c.loop-range.invariant c.in_err-put_range.ensures)

pub returns : goal.returns
returns g c = grind (arith, common_steps)
