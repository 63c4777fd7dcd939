-- `empty_page`: its clauses `here` and `others`.
use Rattle.std.proofs.Common.{arith}
use Rattle.std.proofs.lemmas.Grind.{common_steps}
use Rattle.duty_rounds.proofs.ContentLemmas.{page_emptied, page_stays_empty}
use Rattle.duty_rounds.proofs.contents.empty_page.Goals as goal

pub returns-clause-here : goal.returns-clause-here
returns-clause-here c = λ is.
    page_emptied c.args.subject.now c.args.number c.page-span.result c.args.cells.now c.fill.new.cells c.requires.number c.page-span.ensures c.requires.cells
    c.fill.ensures.only c.fill.ensures.inside

pub returns-clause-others : goal.returns-clause-others
returns-clause-others c = λ k less may.
    page_stays_empty c.args.subject.now k c.page-span.result c.args.cells.now c.fill.new.cells less c.fill.ensures.only c.fill.ensures.inside may

pub returns-then-not-set-number-clause-here : goal.returns-then-not-set-number-clause-here
returns-then-not-set-number-clause-here c = grind (arith, common_steps)
