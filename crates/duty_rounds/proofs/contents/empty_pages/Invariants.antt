-- `empty_pages`: what holds at each turn of its loop.
use Rattle.duty_rounds.proofs.ContentLemmas.{MayBelow}
use Rattle.duty_rounds.proofs.contents.empty_pages.Given as goal

abbrev pub invariant-loop-number : goal.invariant-loop-number
invariant-loop-number l = MayBelow l.subject l.set l.number l.cells
