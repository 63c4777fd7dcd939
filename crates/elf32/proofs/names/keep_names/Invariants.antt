-- `keep_names`: what holds at each turn of its loop.
use Rattle.elf32.specs.Places.{AreKept}
use Rattle.elf32.proofs.names.keep_names.Given as goal

abbrev pub invariant-loop-index : goal.invariant-loop-index
invariant-loop-index l = AreKept l.bytes l.index l.places
