-- `bytes_in`: that its loop keeps its invariant, and that no number overflows.
use Rattle.std.proofs.Common.{arith, ◌<◌, ◌^◌, length}
use Rattle.report_text.proofs.JobLemmas.{bytes_more, few_more}
use Rattle.report_text.proofs.job.bytes_in.Goals as goal

pub overflow_add-count : goal.overflow_add-count
overflow_add-count c =
    let less : c.loop-index.index < length c.args.image.now = omega arith in
    let few = few_more c.args.image.now c.loop-index.index _ less c.run.ensures (2 ^ 32) c.runs-index-end.ensures.maximal in
    omega (arith, c.loop-index.invariant, few)

pub loop-index-preserved : goal.loop-index-preserved
loop-index-preserved c =
    let less : c.loop-index.index < length c.args.image.now = omega arith in
    let more = bytes_more c.args.image.now c.loop-index.index _ less c.run.ensures in
    omega (arith, c.loop-index.invariant, more)
