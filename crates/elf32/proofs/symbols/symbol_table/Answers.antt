-- `symbol_table`: the value that it answers, and that its loop keeps its invariant.
use Rattle.std.proofs.Common.{◌≡◌, ◌<◌, ◌==◌, sym, arith}
use Rattle.std.proofs.lemmas.Bool.{eq-eqb, ne_eqb}
use Rattle.elf32.specs.Format.{section_at, e_shnum}
use Rattle.elf32.proofs.SearchLemmas.{first_below-zero, first_below-none}
use Rattle.elf32.proofs.SymbolLemmas.{symbol_table-found, symbol_table-none}
use Rattle.elf32.proofs.symbols.symbol_table.Goals as goal

pub loop-index-init : goal.loop-index-init
loop-index-init c = first_below-zero (λ k. (section_at c.args.bytes.now k).kind == 2)

pub returns-then-found-eq-SYMTAB : goal.returns-then-found-eq-SYMTAB
returns-then-found-eq-SYMTAB c =
    let inside : c.loop-index.index < e_shnum c.args.bytes.now = omega arith in
    rw c.section_at-found.ensures (sym (symbol_table-found c.args.bytes.now c.loop-index.index c.loop-index.invariant inside
    (eq-eqb (section_at c.args.bytes.now c.loop-index.index).kind 2 (rw c.section_at-found.ensures at c.if-found-eq-SYMTAB.true))))

pub loop-index-preserved : goal.loop-index-preserved
loop-index-preserved c =
    first_below-none (λ k. (section_at c.args.bytes.now k).kind == 2) c.loop-index.index c.loop-index.invariant
    (ne_eqb (section_at c.args.bytes.now c.loop-index.index).kind 2 (rw c.section_at-found.ensures at c.if-found-eq-SYMTAB.false))

pub returns : goal.returns
returns c =
    let end : c.loop-index.index ≡ e_shnum c.args.bytes.now = omega (arith, c.loop-index.auto.index-end) in
    sym (symbol_table-none c.args.bytes.now (rw end at c.loop-index.invariant))
