-- `empty_pages`: that it keeps its contract, and that its loop keeps its invariant.
use Rattle.std.proofs.Common.{arith}
use Rattle.duty_rounds.proofs.ContentLemmas.{may_more, member_inside}
use Rattle.duty_rounds.proofs.contents.empty_pages.Goals as goal

pub loop-number-preserved : goal.loop-number-preserved
loop-number-preserved c =
    may_more c.args.subject.now c.args.set.now c.loop-number.number c.loop-number.cells c.empty_page.new.cells c.loop-number.invariant (omega arith)
    c.empty_page.ensures.here c.empty_page.ensures.others

pub returns : goal.returns
returns c = λ k is. c.loop-number.invariant k (omega (arith, member_inside c.args.set.now k is)) is
