-- `Table::call_fills`: its clause `fills`.
use Rattle.duty_table.proofs.LastLemmas.{none_map, call_fills}
use Rattle.duty_table.proofs.table.Table.call_fills.Goals as goal

pub returns-clause-fills : goal.returns-clause-fills
returns-clause-fills c = none_map c.refusal.result _ _
    (call_fills c.args.self.now.subject.now c.args.work c.args.number c.args.state.now c.args.states.now c.in_ok-went.went c.in_ok-went.ensures.goes)
    c.refusal.ensures
