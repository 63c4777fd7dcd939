-- `build`: what holds at each turn of its loop.
use Rattle.page_geometry.proofs.BuiltLemmas.{Built}
use Rattle.page_geometry.proofs.geometry.build.Given as goal

abbrev pub invariant-loop-index : goal.invariant-loop-index
invariant-loop-index l = Built l.size l.page l.items l.index l.runs.items l.starts.items l.first_sectors.items l.first_pages.items l.sectors l.pages
