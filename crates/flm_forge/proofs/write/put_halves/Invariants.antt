-- `put_halves`: what holds at each turn of its loop.
use Rattle.std.proofs.Common.{◌≡◌, ◌++◌, take}
use Rattle.std.specs.List.{flat_map}
use Rattle.flm_forge.specs.Fields.{half_bytes}
use Rattle.flm_forge.proofs.write.put_halves.Given as goal

abbrev pub invariant-loop-number : goal.invariant-loop-number
invariant-loop-number l = l.out.items ≡ l.initial.out.items ++ flat_map half_bytes (take l.number-index l.numbers)
