-- A place that isn't aligned comes out of the rotation past the end of the RAM.
use Rattle.std.proofs.Common.{arith}
use Rattle.target_core.proofs.PlaceLemmas.{word_inside}
use Rattle.target_core.proofs.line.Line.word_place.Goals as goal

pub returns-clause-even : goal.returns-clause-even
returns-clause-even g c =
    let l = c.args.self.now in
    (word_inside l.ram_base l.ram_size l.reach l.words c.args.at c.rotate_right-index.result (omega arith) (omega arith) (omega arith) l.reaches l.by_words
    c.rotate_right-index.ensures c.if-index-self.false).0

pub returns-clause-value : goal.returns-clause-value
returns-clause-value g c =
    let l = c.args.self.now in
    (word_inside l.ram_base l.ram_size l.reach l.words c.args.at c.rotate_right-index.result (omega arith) (omega arith) (omega arith) l.reaches l.by_words
    c.rotate_right-index.ensures c.if-index-self.false).1
