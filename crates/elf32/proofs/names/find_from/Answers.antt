-- `find_from`: the value that it answers, and that its loop keeps its invariant.
use Rattle.std.proofs.Common.{◌<◌, ◌∙◌, sym, arith}
use Rattle.elf32.specs.Format.{e_shnum}
use Rattle.elf32.specs.Tables.{is_section}
use Rattle.elf32.proofs.SearchLemmas.{first_below-none, first_below-first}
use Rattle.elf32.proofs.names.find_from.Goals as goal

pub loop-index-preserved : goal.loop-index-preserved
loop-index-preserved c =
    first_below-none (is_section c.args.bytes.now c.args.name.now c.args.kind) c.loop-index.index c.loop-index.invariant
    (sym c.is_section.ensures ∙ c.if-is_section.false)

pub returns-then-is_section : goal.returns-then-is_section
returns-then-is_section c =
    let inside : c.loop-index.index < e_shnum c.args.bytes.now = omega arith in
    sym (first_below-first (is_section c.args.bytes.now c.args.name.now c.args.kind) (e_shnum c.args.bytes.now) c.loop-index.index inside
    c.loop-index.invariant (sym c.is_section.ensures ∙ c.if-is_section.true))
