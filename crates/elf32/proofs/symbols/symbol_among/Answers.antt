-- `symbol_among`: the value that it answers, and that its loop keeps its invariant.
use Rattle.std.proofs.Common.{◌≡◌, ◌/◌, ◌∙◌, sym, arith}
use Rattle.std.proofs.lemmas.Result.{err_from_is_err_and}
use Rattle.elf32.proofs.SearchLemmas.{first_below-zero}
use Rattle.elf32.proofs.SymbolLemmas.{symbol_among-bad, symbol_among-found, symbol_among-none, ends_at, ends_at-more}
use Rattle.elf32.proofs.symbols.symbol_among.Goals as goal

pub loop-index-init : goal.loop-index-init
loop-index-init c = first_below-zero (ends_at c.args.bytes.now c.args.strings.now c.args.table c.args.name.now)

pub returns-in_err-is_symbol : goal.returns-in_err-is_symbol
returns-in_err-is_symbol c =
    let p = err_from_is_err_and c.from_residual.result c.from_residual.ensures.1 in
    rw (p.1, p.2, c.in_err-is_symbol.ensures.bad.0)
    (sym (symbol_among-bad c.args.bytes.now c.args.strings.now c.args.table c.args.name.now c.loop-index.index c.loop-index.invariant
    c.loop-index-test.true c.in_err-is_symbol.ensures.bad.1))

pub returns-then-branch : goal.returns-then-branch
returns-then-branch c =
    rw c.symbol_at.ensures
    (sym (symbol_among-found c.args.bytes.now c.args.strings.now c.args.table c.args.name.now c.loop-index.index c.loop-index.invariant
    c.loop-index-test.true c.in_ok-is_symbol.ensures.good (sym c.in_ok-is_symbol.ensures.value ∙ c.if-branch.true)))

pub loop-index-preserved : goal.loop-index-preserved
loop-index-preserved c =
    ends_at-more c.args.bytes.now c.args.strings.now c.args.table c.args.name.now c.loop-index.index c.loop-index.invariant
    c.in_ok-is_symbol.ensures.good (sym c.in_ok-is_symbol.ensures.value ∙ c.if-branch.false)

pub returns : goal.returns
returns c =
    let end : c.loop-index.index ≡ c.args.table.size / 16 = omega (arith, c.loop-index.auto.index-end) in
    sym (symbol_among-none c.args.bytes.now c.args.strings.now c.args.table c.args.name.now (rw end at c.loop-index.invariant))
