-- `section_names`: its clauses `fault` and `names`.
use Rattle.std.proofs.Common.{◌≡◌, ◌<◌, ◌∙◌, sym, ap, arith, Ok, Err}
use Rattle.std.specs.Result.{result_ok, result_err}
use Rattle.std.proofs.lemmas.Result.{err_from_is_err_and}
use Rattle.elf32.specs.Format.{e_shnum, e_shstrndx}
use Rattle.elf32.specs.Checks.{names_part}
use Rattle.elf32.proofs.NameLemmas.{index_fault-part, section_names-part}
use Rattle.elf32.proofs.names.section_names.Goals as goal

pub returns-in_err-names-clause-fault : goal.returns-in_err-names-clause-fault
returns-in_err-names-clause-fault c =
    let bytes = c.args.bytes.now in
    let some : e_shnum bytes ≡ 0 → ⊥ = rw c.section_count.ensures.value at c.if-section_count-eq0.false in
    let named : e_shstrndx bytes ≡ 0 → ⊥ = rw c.name_index-index.ensures.value at c.if-index-eq0.false in
    let low : e_shstrndx bytes < e_shnum bytes = omega arith in
    let cut : names_part bytes ≡ Err c.in_err-names.field-0.0 = rw (c.section_at-table.ensures, c.name_index-index.ensures.value) at c.in_err-names.ensures in
    let p = err_from_is_err_and c.from_residual.result c.from_residual.ensures.1 in
    rw (p.1, p.2) (index_fault-part bytes some low named ∙ ap result_err cut)

pub returns-clause-fault : goal.returns-clause-fault
returns-clause-fault c =
    let bytes = c.args.bytes.now in
    let some : e_shnum bytes ≡ 0 → ⊥ = rw c.section_count.ensures.value at c.if-section_count-eq0.false in
    let named : e_shstrndx bytes ≡ 0 → ⊥ = rw c.name_index-index.ensures.value at c.if-index-eq0.false in
    let low : e_shstrndx bytes < e_shnum bytes = omega arith in
    let whole : names_part bytes ≡ Ok c.in_ok-names.names.now = rw (c.section_at-table.ensures, c.name_index-index.ensures.value) at c.in_ok-names.ensures in
    index_fault-part bytes some low named ∙ ap result_err whole

pub returns-clause-names : goal.returns-clause-names
returns-clause-names c =
    let bytes = c.args.bytes.now in
    let some : e_shnum bytes ≡ 0 → ⊥ = rw c.section_count.ensures.value at c.if-section_count-eq0.false in
    let named : e_shstrndx bytes ≡ 0 → ⊥ = rw c.name_index-index.ensures.value at c.if-index-eq0.false in
    let whole : names_part bytes ≡ Ok c.in_ok-names.names.now = rw (c.section_at-table.ensures, c.name_index-index.ensures.value) at c.in_ok-names.ensures in
    rw c.new.ensures (sym (section_names-part bytes some named ∙ ap result_ok whole))
