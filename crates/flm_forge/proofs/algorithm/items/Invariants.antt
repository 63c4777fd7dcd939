-- `items`: what holds at each turn of its loop.
use Rattle.std.proofs.Common.{◌≡◌, ◌+◌, ◌++◌, drop}
use Rattle.board_file.specs.Limits.{cells_of}
use Rattle.flm_forge.specs.Listed.{items_from}
use Rattle.flm_forge.proofs.algorithm.items.Given as goal

abbrev pub invariant-loop-run : goal.invariant-loop-run
invariant-loop-run l = record {
  made : l.items.items ++ items_from l.offset (drop l.run-index l.runs) ≡ items_from 0 l.runs;
  left : l.offset + cells_of (drop l.run-index l.runs) ≡ cells_of l.runs;
}
