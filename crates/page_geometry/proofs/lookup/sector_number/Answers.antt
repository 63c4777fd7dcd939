-- `sector_number`: its clauses `number` and `inside`, and that no number overflows.
use Rattle.std.proofs.Common.{subst, sym, arith}
use Rattle.flm_descriptor.specs.Shape.{Range}
use Rattle.page_geometry.specs.Geometry.{In}
use Rattle.page_geometry.proofs.NumberLemmas.{number_sector}
use Rattle.page_geometry.proofs.lookup.sector_number.Goals as goal

pub overflow_add-result : goal.overflow_add-result
overflow_add-result c = let x = number_sector c.args.runs.now c.args.firsts.now c.requires.table c.find_place-at.result.0 c.find_place-at.result.1
    c.find_place-at.ensures.run c.find_place-at.ensures.sector in omega (arith, x.0, c.requires.few)

pub returns-clause-number : goal.returns-clause-number
returns-clause-number c = (number_sector c.args.runs.now c.args.firsts.now c.requires.table c.find_place-at.result.0 c.find_place-at.result.1
    c.find_place-at.ensures.run c.find_place-at.ensures.sector).0

pub returns-clause-inside : goal.returns-clause-inside
returns-clause-inside c = subst (λ (r : Range). In c.args.place r)
    (sym (number_sector c.args.runs.now c.args.firsts.now c.requires.table c.find_place-at.result.0 c.find_place-at.result.1 c.find_place-at.ensures.run
    c.find_place-at.ensures.sector).1) c.find_place-at.ensures.inside
