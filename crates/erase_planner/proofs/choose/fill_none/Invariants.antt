-- `fill_none`: what holds at each turn of its loop.
use Rattle.std.proofs.Common.{◌≡◌, ◌≤◌, vec_capacity, false}
use Rattle.erase_planner.specs.Plans.{tests}
use Rattle.erase_planner.proofs.choose.fill_none.Given as goal

abbrev pub invariant-loop-sector : goal.invariant-loop-sector
invariant-loop-sector l = record {
  set : l.sectors.items ≡ tests l._sector (λ s. false);
  room : l.count ≤ vec_capacity l.sectors;
  spare : vec_capacity l.fn.sectors ≤ vec_capacity l.sectors;
}
