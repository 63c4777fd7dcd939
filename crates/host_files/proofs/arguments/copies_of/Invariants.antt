-- `copies_of`: what holds at each turn of its loop.
use Rattle.std.proofs.Common.{◌≡◌, ◌++◌, map, string_bytes}
use Rattle.std.specs.Vec.Iter.{into_iter_items}
use Rattle.host_files.proofs.arguments.copies_of.Given as goal

abbrev pub invariant-loop-argument : goal.invariant-loop-argument
invariant-loop-argument l = (l.yielded ++ into_iter_items l.argument-iterator ≡ into_iter_items l.initial.argument-iterator)
    × (l.words.items ≡ map (λ argument. string_bytes argument) l.yielded)
