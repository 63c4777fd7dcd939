-- `check_sizes`: what holds at each turn of its loop.
use Rattle.std.proofs.Common.{◌≡◌, ℕ, ◌<◌, ◌≤◌, None}
use Rattle.elf32.specs.Search.{first_below}
use Rattle.flm_descriptor.specs.Shape.{size_at}
use Rattle.flm_descriptor.specs.Limits.{is_void}
use Rattle.flm_descriptor.proofs.checks.check_sizes.Given as goal

abbrev pub invariant-loop-index : goal.invariant-loop-index
invariant-loop-index l = (first_below (is_void l.items) l.index ≡ None) × ((k : ℕ) → k < l.index → 1 ≤ size_at l.items k)
