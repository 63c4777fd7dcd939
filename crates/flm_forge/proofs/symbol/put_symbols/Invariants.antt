-- `put_symbols`: what holds at each turn of its loop.
use Rattle.std.proofs.Common.{◌≡◌, ◌++◌, take}
use Rattle.std.specs.List.{flat_map}
use Rattle.flm_forge.specs.Symbols.{symbol_bytes}
use Rattle.flm_forge.proofs.symbol.put_symbols.Given as goal

abbrev pub invariant-loop-symbol : goal.invariant-loop-symbol
invariant-loop-symbol l = l.out.items ≡ l.initial.out.items ++ flat_map symbol_bytes (take l.symbol-index l.symbols)
