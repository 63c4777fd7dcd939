-- `Gathered::push_runs`: what holds at each turn of its loop.
use Rattle.std.proofs.Common.{◌≡◌, ◌++◌, take}
use Rattle.record_lines.proofs.gathered.Gathered.push_runs.Given as goal

abbrev pub invariant-loop-index : goal.invariant-loop-index
invariant-loop-index l = l.self ≡ l.fn.self ++ take l.index l.map
