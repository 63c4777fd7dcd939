-- `find_place`: that it keeps its contract.
use Rattle.std.proofs.Common.{arith}
use Rattle.std.proofs.lemmas.Grind.{common_steps}
use Rattle.page_geometry.proofs.FindLemmas.{place_found}
use Rattle.page_geometry.proofs.lookup.find_place.Goals as goal

pub returns-clause-sector : goal.returns-clause-sector
returns-clause-sector c =
    (place_found c.args.size c.args.runs.now c.args.starts.now c.requires.table c.last_at_most-at.result c.args.place
    c.last_at_most-at.ensures.within c.last_at_most-at.ensures.at_most c.last_at_most-at.ensures.next c.requires.place).0

pub returns-clause-inside : goal.returns-clause-inside
returns-clause-inside c =
    (place_found c.args.size c.args.runs.now c.args.starts.now c.requires.table c.last_at_most-at.result c.args.place
    c.last_at_most-at.ensures.within c.last_at_most-at.ensures.at_most c.last_at_most-at.ensures.next c.requires.place).1

pub last_at_most-at-requires-clause-rising : goal.last_at_most-at-requires-clause-rising
last_at_most-at-requires-clause-rising c = grind (arith, common_steps)
