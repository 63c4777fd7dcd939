-- `SeenRecordFormat::take_line`: its clauses `err` and `ok`.
use Rattle.std.proofs.Common.{◌≡◌, ◌++◌, ◌+◌, ◌≤◌, List, ℕ, Some, Ok, Err, None, length, refl, sym, ap, subst, arith}
use Rattle.std.proofs.lemmas.Grind.{common_steps}
use Rattle.record_lines.specs.Cells.{cells_from, first_clash, IsImageOf}
use Rattle.record_lines.specs.Clashes.{IsClashFault}
use Rattle.record_lines.specs.Format.{IsLineFault}
use Rattle.image_srec.specs.declared.record.SrecRecord.TheVariants.{Data}
use Rattle.image_srec.specs.Record.{read_line}
use Rattle.image_srec.specs.Srec.{srec}
use Rattle.image_srec.proofs.LineLemmas.{faulty, took_data, clashed}
use Rattle.image_srec.proofs.format.SeenRecordFormat.take_line.Goals as goal

pub returns-in-Err-clause-err : goal.returns-in-Err-clause-err
returns-in-Err-clause-err c = λ before image.
    faulty (read_line c.args.line.now) c.in-Err.kind before c.args.self.now (let is : read_line c.args.line.now ≡ Err c.in-Err.kind = cc in is)

pub returns-in-Ok-clause-ok : goal.returns-in-Ok-clause-ok
returns-in-Ok-clause-ok c = λ before image.
    let arm = c.in-Ok-Some-Data in
    let is : read_line c.args.line.now ≡ Ok (Some (Data arm.at arm.bytes)) = cc in
    let fits : arm.at + length arm.bytes ≤ 4294967296 = omega (arith, ap length c.bytes-bytes.ensures.value) in
    let laid = subst (λ (bytes : List ℕ). (first_clash before (cells_from arm.at bytes) ≡ None) ×
    IsImageOf (cells_from arm.at bytes ++ before) c.lay_cells.new.map) c.bytes-bytes.ensures.value (c.in-Ok.ensures.ok before image) in
    took_data (read_line c.args.line.now) before c.args.self.now _ arm.at arm.bytes c.lay_cells.new.map is fits refl laid

pub returns-in-Err-lay_cells-clause-err : goal.returns-in-Err-lay_cells-clause-err
returns-in-Err-lay_cells-clause-err c = λ before image.
    let arm = c.in-Ok-Some-Data in
    let is : read_line c.args.line.now ≡ Ok (Some (Data arm.at arm.bytes)) = cc in
    let fits : arm.at + length arm.bytes ≤ 4294967296 = omega (arith, ap length c.bytes-bytes.ensures.value) in
    let clash = subst (λ (bytes : List ℕ). IsClashFault c.in-Err-lay_cells.fault (first_clash before (cells_from arm.at bytes))) c.bytes-bytes.ensures.value
    (c.in-Err-lay_cells.ensures.err before image) in
    subst (IsLineFault srec (read_line c.args.line.now) before c.args.self.now) (sym c.fault_of_clash.ensures)
    (clashed (read_line c.args.line.now) c.in-Err-lay_cells.fault before c.args.self.now arm.at arm.bytes is fits clash)

pub returns-else-from-seen-clause-ok : goal.returns-else-from-seen-clause-ok
returns-else-from-seen-clause-ok c = grind (arith, common_steps)

pub returns-then-from-bytes-gt-ADDRESSES-clause-err : goal.returns-then-from-bytes-gt-ADDRESSES-clause-err
returns-then-from-bytes-gt-ADDRESSES-clause-err c = grind (arith, common_steps)

pub returns-in-Ok-None-2-clause-ok : goal.returns-in-Ok-None-2-clause-ok
returns-in-Ok-None-2-clause-ok c = grind (arith, common_steps)

pub returns-then-from-seen-clause-err : goal.returns-then-from-seen-clause-err
returns-then-from-seen-clause-err c = grind (arith, common_steps)

pub returns-in-Ok-Some-End-clause-ok : goal.returns-in-Ok-Some-End-clause-ok
returns-in-Ok-Some-End-clause-ok c = grind (arith, common_steps)

pub returns-in-Ok-None-clause-ok : goal.returns-in-Ok-None-clause-ok
returns-in-Ok-None-clause-ok c = grind (arith, common_steps)
