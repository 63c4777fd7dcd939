-- `RunList::remove`: what holds at each turn of its loop.
use Rattle.std.proofs.Common.{◌≡◌, ◌++◌, take, drop}
use Rattle.byte_map.proofs.run_list.RunList.remove.Given as goal

abbrev pub invariant-loop-index : goal.invariant-loop-index
invariant-loop-index l = l.self ≡ take l.start l.initial.self ++ drop l._index l.initial.self
