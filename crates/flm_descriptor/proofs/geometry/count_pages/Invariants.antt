-- `count_pages`: what holds at each turn of its loop.
use Rattle.std.proofs.Common.{◌≡◌, ◌*◌, ◌≤◌}
use Rattle.flm_descriptor.specs.Shape.{runs_of, pages_before}
use Rattle.flm_descriptor.proofs.geometry.count_pages.Given as goal

abbrev pub invariant-loop-index : goal.invariant-loop-index
invariant-loop-index l = record {
  total : l.total ≡ pages_before l.page (runs_of l.size l.items) l.index;
  small : l.total ≤ 562949953421312 * l.index;
}
