-- `lay_cells`: its clauses `ok` and `err`.
use Rattle.std.proofs.Common.{subst}
use Rattle.byte_map.specs.Laying.{IsLayFault}
use Rattle.record_lines.proofs.CellLemmas.{laid_ok, laid_clash}
use Rattle.record_lines.proofs.record_cells.lay_cells.Goals as goal

pub returns-in-Ok-clause-ok : goal.returns-in-Ok-clause-ok
returns-in-Ok-clause-ok c = laid_ok c.args.at c.args.bytes.now c.args.map.now c.lay.new.self c.in-Ok.ensures.ok

pub returns-in-Err-Conflict-clause-err : goal.returns-in-Err-Conflict-clause-err
returns-in-Err-Conflict-clause-err c =
    let arm = c.in-Err-Conflict in
    laid_clash c.args.at c.args.bytes.now c.args.map.now arm.at arm.old arm.new
    (subst (IsLayFault (record { at = c.args.at; bytes = c.args.bytes.now }) c.args.map.now) arm.field-0-is arm.ensures.refused)
