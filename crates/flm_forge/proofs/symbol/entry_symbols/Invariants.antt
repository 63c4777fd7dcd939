-- `entry_symbols`: what holds at each turn of its loop.
use Rattle.std.proofs.Common.{◌≡◌, ◌≤◌, length, take}
use Rattle.std.specs.List.{flat_map}
use Rattle.flm_forge.specs.Entries.{shown_place}
use Rattle.flm_forge.specs.Symbols.{symbol_if}
use Rattle.flm_forge.proofs.symbol.entry_symbols.Given as goal

abbrev pub invariant-loop-name : goal.invariant-loop-name
invariant-loop-name l = record {
  made : l.symbols.items ≡ flat_map (λ named. symbol_if named (shown_place l.labels l.hidden named)) (take l.name-index l.name-items);
  few : length l.symbols.items ≤ l.name-index;
}
