-- `entry_symbols`: its clause `symbols`.
use Rattle.std.proofs.Common.{◌≡◌, ℕ, take, ap, ◌∙◌, arith}
use Rattle.std.specs.List.{flat_map}
use Rattle.flm_forge.specs.Entries.{entry_names, shown_place}
use Rattle.flm_forge.specs.Symbols.{entry_symbols, symbol_if}
use Rattle.flm_forge.proofs.symbol.entry_symbols.Goals as goal

pub returns-clause-symbols : goal.returns-clause-symbols
unfolding entry_symbols
returns-clause-symbols c =
    let all : c.loop-name.name-index ≡ 6 = omega arith in
    c.loop-name.invariant.made
    ∙ ap (λ (n : ℕ). flat_map (λ named. symbol_if named (shown_place c.args.labels.now c.args.hidden.now named)) (take n entry_names)) all
