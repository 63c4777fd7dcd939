-- `add_aimed`: its clause `ok`.
use Rattle.armv6m_asm.proofs.Steps.{aimed_added}
use Rattle.armv6m_asm.proofs.code.add_aimed.Goals as goal

pub returns-in_ok-add_instr-in-Some-clause-ok : goal.returns-in_ok-add_instr-in-Some-clause-ok
returns-in_ok-add_instr-in-Some-clause-ok c =
    aimed_added c.args.labels.now c.args.aim c.args.destination c.args.place c.address_of.result c.args.bytes.now.items c.add_instr.new.bytes.items
    c.in-Some.instr
    c.address_of.ensures c.in-Some.ensures c.in_ok-add_instr-in-Some.ensures
