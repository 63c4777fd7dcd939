-- `find_sector`: its clause `sector`, and what `last_at_most` requires.
use Rattle.page_geometry.proofs.FindLemmas.{sectors_rising, sectors_first, sectors_found}
use Rattle.page_geometry.proofs.lookup.find_sector.Goals as goal

pub last_at_most-at-requires-clause-rising : goal.last_at_most-at-requires-clause-rising
last_at_most-at-requires-clause-rising c = sectors_rising c.args.runs.now c.args.firsts.now c.requires.table

pub last_at_most-at-requires-clause-first : goal.last_at_most-at-requires-clause-first
last_at_most-at-requires-clause-first c = sectors_first c.args.runs.now c.args.firsts.now c.requires.table c.args.index

pub returns-clause-sector : goal.returns-clause-sector
returns-clause-sector c =
    (sectors_found c.args.runs.now c.args.firsts.now c.requires.table c.last_at_most-at.result c.args.index
    c.last_at_most-at.ensures.within c.last_at_most-at.ensures.at_most c.last_at_most-at.ensures.next c.requires.index).1
