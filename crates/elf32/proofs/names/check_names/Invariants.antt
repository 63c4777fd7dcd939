-- `check_names`: what holds at each turn of its loop.
use Rattle.std.proofs.Common.{◌≡◌, None}
use Rattle.std.specs.Prelude.{is_none}
use Rattle.elf32.specs.Search.{first_below}
use Rattle.elf32.specs.Checks.{section_name}
use Rattle.elf32.proofs.names.check_names.Given as goal

abbrev pub invariant-loop-index : goal.invariant-loop-index
invariant-loop-index l = first_below (λ k. is_none (section_name l.bytes k)) l.index ≡ None
