-- `fill`: that its loop keeps its invariant.
use Rattle.duty_trials.proofs.IdealLemmas.{only_none, only_more, filled_more}
use Rattle.std.proofs.Common.{arith}
use Rattle.duty_trials.proofs.ideal.fill.Goals as goal

pub loop-index-init : goal.loop-index-init
loop-index-init c = (only_none c.args.from c.args.cells.now, λ i above below. absurd (omega (arith, above, below)))

pub loop-index-preserved : goal.loop-index-preserved
loop-index-preserved c = (
  only_more c.args.from c.loop-index.index c.args.value c.args.cells.now c.loop-index.cells (omega arith) c.loop-index.invariant.0,
  filled_more c.args.from c.loop-index.index c.args.value c.loop-index.cells (omega (arith, c.loop-index.invariant.0.long)) c.loop-index.invariant.1,
)
