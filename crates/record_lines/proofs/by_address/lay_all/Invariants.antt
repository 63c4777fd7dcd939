-- `lay_all`: what holds at each turn of its loop.
use Rattle.std.proofs.Common.{take}
use Rattle.record_lines.specs.Gathered.{IsUnionOf}
use Rattle.record_lines.proofs.by_address.lay_all.Given as goal

abbrev pub invariant-loop-index : goal.invariant-loop-index
invariant-loop-index l = IsUnionOf (take l.index l.runs) l.map
