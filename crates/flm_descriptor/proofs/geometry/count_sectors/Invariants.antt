-- `count_sectors`: what holds at each turn of its loop.
use Rattle.std.proofs.Common.{◌≡◌, ◌*◌, ◌≤◌}
use Rattle.flm_descriptor.specs.Shape.{runs_of}
use Rattle.flm_descriptor.specs.Shape.{sectors_before}
use Rattle.flm_descriptor.proofs.geometry.count_sectors.Given as goal

abbrev pub invariant-loop-index : goal.invariant-loop-index
invariant-loop-index l = record {
  total : l.total ≡ sectors_before (runs_of l.size l.items) l.index;
  small : l.total ≤ 4294967295 * l.index;
}
