-- `first_unequal`: what holds at each turn of its loop.
use Rattle.std.proofs.Common.{◌≡◌, take}
use Rattle.readback.proofs.compare.first_unequal.Given as goal

abbrev pub invariant-loop-i : goal.invariant-loop-i
invariant-loop-i l = take l.i l.got ≡ take l.i l.want
