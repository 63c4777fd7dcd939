-- `put_sectors`: its contract, `Puts`, and that its loop keeps its invariant.
use Rattle.std.proofs.Common.{arith}
use Rattle.std.proofs.lemmas.Grind.{common_steps}
use Rattle.job_parts.specs.Board.{sectors_line}
use Rattle.outside_io.proofs.PutTexts.{puts_nothing, puts_more, puts_breaks, puts_failed}
use Rattle.job_parts.proofs.board.put_sectors.Goals as goal

pub loop-run-init : goal.loop-run-init
loop-run-init g c = puts_nothing _ _ _

pub loop-run-preserved : goal.loop-run-preserved
loop-run-preserved g c =
    puts_more sectors_line _ _ _ c.loop-run-test.true c.loop-run.invariant c.in_ok-put_run.ensures

pub returns-in_err-put_run : goal.returns-in_err-put_run
returns-in_err-put_run g c =
    puts_failed _ c.from_residual.ensures.0
    (puts_breaks sectors_line _ _ _ c.loop-run-test.true c.loop-run.invariant c.in_err-put_run.ensures)

pub returns : goal.returns
returns g c = grind (arith, common_steps)
