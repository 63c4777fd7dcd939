-- `survey`: its clauses `looks` and `surveyed`, and what `read_cells` requires.
use Rattle.std.proofs.Common.{◌∙◌, sym, rules}
use Rattle.std.proofs.lemmas.Result.{err_from_is_err_and}
use Rattle.device_dump.proofs.LooksLemmas.{looks_dropped, looks_by, only_reads, all_read}
use Rattle.device_dump.proofs.cell_survey.survey.Goals as goal

pub returns-in_err-cells_drop-clause-looks : goal.returns-in_err-cells_drop-clause-looks
returns-in_err-cells_drop-clause-looks g c =
    let p = err_from_is_err_and c.from_residual.result c.from_residual.ensures.1 in
    rw (p.1, p.2) (looks_dropped c.in_err-cells_drop.field-0.0 c.in_err-cells_drop.ensures.does)

pub returns-clause-surveyed : goal.returns-clause-surveyed
returns-clause-surveyed g c = all_read c.args.cells.now c.read_cells.new.out c.read_cells.result c.read_cells.ensures
    (λ told. g.met.B.Bench.all_told c.cells_drop.new.self told ∙ c.in_ok-cells_drop.ensures.does.count ∙ sym c.requires)

pub returns-clause-looks : goal.returns-clause-looks
returns-clause-looks g c = looks_by _ c.in_ok-cells_drop.ensures.does (only_reads c.read_cells.ensures) c.read_cells.result c.read_cells.ensures.cause

pub read_cells-requires-clause-idle : goal.read_cells-requires-clause-idle
read_cells-requires-clause-idle g c = search rules
