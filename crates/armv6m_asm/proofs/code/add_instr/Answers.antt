-- `add_instr`: its contract, `AddsCode`.
use Rattle.std.proofs.lemmas.Result.{on_ok_weaker}
use Rattle.armv6m_encode.specs.declared.code.Encoding.TheVariants.{Half, Pair}
use Rattle.armv6m_asm.proofs.Steps.{code_added}
use Rattle.armv6m_asm.proofs.code.add_instr.Goals as goal

pub returns-in-Half : goal.returns-in-Half
returns-in-Half c =
    on_ok_weaker c.add.result (code_added c.args.bytes.now.items c.add.new.bytes.items c.args.instr.now (Half c.in-Half.half) c.in-Half.ensures)
    (rw c.to_le_bytes.ensures at c.add.ensures)

pub returns-in-Pair : goal.returns-in-Pair
returns-in-Pair c =
    on_ok_weaker c.add_pair.result (code_added c.args.bytes.now.items c.add_pair.new.bytes.items c.args.instr.now (Pair c.in-Pair.first c.in-Pair.second)
    c.in-Pair.ensures) c.add_pair.ensures
