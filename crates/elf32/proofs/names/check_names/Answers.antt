-- `check_names`: its contract, `Finds`, and that its loop keeps its invariant.
use Rattle.std.proofs.Common.{◌≡◌, ◌<◌, arith}
use Rattle.std.specs.Prelude.{is_none}
use Rattle.std.proofs.lemmas.Result.{err_from_is_err_and}
use Rattle.elf32.specs.Format.{e_shnum}
use Rattle.elf32.specs.Checks.{section_name}
use Rattle.elf32.proofs.NameLemmas.{name_fault-here, name_fault-none, within_named}
use Rattle.elf32.proofs.SearchLemmas.{first_below-zero, first_below-none}
use Rattle.elf32.proofs.names.check_names.Goals as goal

pub loop-index-init : goal.loop-index-init
loop-index-init c = first_below-zero (λ k. is_none (section_name c.args.bytes.now k))

pub returns-in_err-section_name : goal.returns-in_err-section_name
returns-in_err-section_name c =
    let inside : c.loop-index.index < e_shnum c.args.bytes.now = omega arith in
    let p = err_from_is_err_and c.from_residual.result c.from_residual.ensures.1 in
    rw (p.1, p.2, c.in_err-section_name.ensures.bad.0)
    (name_fault-here c.args.bytes.now c.loop-index.index c.loop-index.invariant inside c.in_err-section_name.ensures.bad.1)

pub loop-index-preserved : goal.loop-index-preserved
loop-index-preserved c =
    first_below-none (λ k. is_none (section_name c.args.bytes.now k)) c.loop-index.index c.loop-index.invariant
    (within_named 0 _ _ c.in_ok-section_name.ensures.within)

pub returns : goal.returns
returns c =
    let end : c.loop-index.index ≡ e_shnum c.args.bytes.now = omega (arith, c.loop-index.auto.index-end) in
    name_fault-none c.args.bytes.now (rw end at c.loop-index.invariant)
