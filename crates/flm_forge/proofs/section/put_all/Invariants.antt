-- `put_all`: what holds at each turn of its loop.
use Rattle.std.proofs.Common.{◌≡◌, ◌++◌, take}
use Rattle.std.specs.List.{flat_map}
use Rattle.flm_forge.specs.Sections.{header_bytes}
use Rattle.flm_forge.proofs.section.put_all.Given as goal

abbrev pub invariant-loop-header : goal.invariant-loop-header
invariant-loop-header l = l.out.items ≡ l.initial.out.items ++ flat_map header_bytes (take l.header-index l.headers)
