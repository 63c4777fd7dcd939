-- A place that isn't aligned comes out of the rotation past the end of the RAM.
use Rattle.std.proofs.Common.{arith}
use Rattle.target_core.proofs.PlaceLemmas.{half_inside}
use Rattle.target_core.proofs.line.Line.half_place.Goals as goal

pub returns-clause-even : goal.returns-clause-even
returns-clause-even g c =
    let l = c.args.self.now in
    (half_inside l.ram_base l.ram_size l.reach l.halves c.args.at c.rotate_right-index.result (omega arith) (omega arith) (omega arith) l.reaches l.by_halves
    c.rotate_right-index.ensures c.if-index-self.false).0

pub returns-clause-value : goal.returns-clause-value
returns-clause-value g c =
    let l = c.args.self.now in
    (half_inside l.ram_base l.ram_size l.reach l.halves c.args.at c.rotate_right-index.result (omega arith) (omega arith) (omega arith) l.reaches l.by_halves
    c.rotate_right-index.ensures c.if-index-self.false).1
