-- `Gathered::push_runs`: that its loop keeps its invariant.
use Rattle.std.proofs.Common.{◌<◌, length, arith}
use Rattle.record_lines.proofs.Stores.{pushed_more}
use Rattle.record_lines.proofs.gathered.Gathered.push_runs.Goals as goal

pub loop-index-preserved : goal.loop-index-preserved
loop-index-preserved c =
    let lt : c.loop-index.index < length c.args.map.now = omega (arith, c.runs-index-end.ensures.count, c.loop-index-test.true) in
    pushed_more c.args.self.now c.args.map.now c.loop-index.self c.push.new.self c.loop-index.index _ lt c.run-at.ensures c.loop-index.invariant
    c.in_ok-push.ensures
