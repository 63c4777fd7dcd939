-- `put_clear`: that its loop keeps its invariant, and that each place is inside.
use Rattle.std.proofs.Common.{◌∙◌, true, false, arith}
use Rattle.std.proofs.lemmas.Grind.{common_steps}
use Rattle.std.proofs.lemmas.List.{get_or_default}
use Rattle.bench_model.proofs.record.put_clear.Goals as goal

pub loop-i-init : goal.loop-i-init
loop-i-init c = grind (arith, common_steps)

pub bounds-bytes-i : goal.bounds-bytes-i
bounds-bytes-i c = c.requires.enough c.loop-i.i c.loop-i-test.true
    (get_or_default c.args.marks.now c.loop-i.i true false c.loop-i-test.true ∙ c.if-not-marks-i.true)
