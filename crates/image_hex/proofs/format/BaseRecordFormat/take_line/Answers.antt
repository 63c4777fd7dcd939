-- `BaseRecordFormat::take_line`: its clauses `err` and `ok`.
use Rattle.std.proofs.Common.{◌≡◌, ◌≤◌, ◌++◌, length, List, ℕ, Some, Ok, Err, None, sym, subst, arith}
use Rattle.std.proofs.lemmas.Grind.{common_steps}
use Rattle.record_lines.specs.Cells.{first_clash, IsImageOf}
use Rattle.record_lines.specs.Clashes.{IsClashFault}
use Rattle.record_lines.specs.Format.{IsLineFault}
use Rattle.image_hex.specs.declared.record.HexRecord.TheVariants.{Data}
use Rattle.image_hex.specs.Record.{read_line}
use Rattle.image_hex.specs.Hex.{hex, data_cells}
use Rattle.image_hex.proofs.LineLemmas.{faulty, took_data, clashed}
use Rattle.image_hex.proofs.format.BaseRecordFormat.take_line.Goals as goal

pub returns-in-Err-clause-err : goal.returns-in-Err-clause-err
returns-in-Err-clause-err c = λ before image.
    faulty (read_line c.args.line.now) c.in-Err.kind before c.args.self.now (let is : read_line c.args.line.now ≡ Err c.in-Err.kind = cc in is)

pub returns-in-Ok-clause-ok : goal.returns-in-Ok-clause-ok
returns-in-Ok-clause-ok c = λ before image.
    let arm = c.in-Ok-Some-Data in
    let base = c.args.self.now in
    let is : read_line c.args.line.now ≡ Ok (Some (Data arm.offset arm.bytes)) = cc in
    let laid = subst (λ (bytes : List ℕ). (first_clash before (data_cells base arm.offset bytes) ≡ None) ×
    IsImageOf (data_cells base arm.offset bytes ++ before) c.lay_data.new.map) c.bytes.ensures.value (c.in-Ok.ensures.ok before image) in
    let few : length arm.bytes ≤ 255 = subst (λ (bytes : List ℕ). length bytes ≤ 255) c.bytes.ensures.value c.bytes.ensures.limit in
    took_data (read_line c.args.line.now) before base arm.offset arm.bytes c.lay_data.new.map is few laid

pub returns-in-Err-lay_data-clause-err : goal.returns-in-Err-lay_data-clause-err
returns-in-Err-lay_data-clause-err c = λ before image.
    let arm = c.in-Ok-Some-Data in
    let base = c.args.self.now in
    let is : read_line c.args.line.now ≡ Ok (Some (Data arm.offset arm.bytes)) = cc in
    let clash = subst (λ (bytes : List ℕ). IsClashFault c.in-Err-lay_data.fault (first_clash before (data_cells base arm.offset bytes))) c.bytes.ensures.value
    (c.in-Err-lay_data.ensures.err before image) in
    subst (IsLineFault hex (read_line c.args.line.now) before base) (sym c.fault_of_clash.ensures)
    (clashed (read_line c.args.line.now) c.in-Err-lay_data.fault before base arm.offset arm.bytes is clash)

pub returns-in-Ok-None-2-clause-ok : goal.returns-in-Ok-None-2-clause-ok
returns-in-Ok-None-2-clause-ok c = grind (arith, common_steps)

pub returns-in-Ok-Some-Sets-clause-ok : goal.returns-in-Ok-Some-Sets-clause-ok
returns-in-Ok-Some-Sets-clause-ok c = grind (arith, common_steps)

pub returns-in-Ok-None-clause-ok : goal.returns-in-Ok-None-clause-ok
returns-in-Ok-None-clause-ok c = grind (arith, common_steps)

pub returns-in-Ok-Some-End-clause-ok : goal.returns-in-Ok-Some-End-clause-ok
returns-in-Ok-Some-End-clause-ok c = grind (arith, common_steps)
