-- `check_order`: what holds at each turn of its loop.
use Rattle.std.proofs.Common.{◌≡◌, ℕ, ◌+◌, ◌<◌, None}
use Rattle.elf32.specs.Search.{first_below}
use Rattle.flm_descriptor.specs.Shape.{offset_at}
use Rattle.flm_descriptor.specs.Limits.{falls}
use Rattle.flm_descriptor.proofs.checks.check_order.Given as goal

abbrev pub invariant-loop-index : goal.invariant-loop-index
invariant-loop-index l = (first_below (falls l.items) l.index ≡ None) × ((k : ℕ) → k < l.index → offset_at l.items k < offset_at l.items (k + 1))
