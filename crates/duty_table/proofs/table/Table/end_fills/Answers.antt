-- `Table::end_fills`: its clause `fills`.
use Rattle.duty_table.proofs.LastLemmas.{none_map, end_fills}
use Rattle.duty_table.proofs.table.Table.end_fills.Goals as goal

pub returns-clause-fills : goal.returns-clause-fills
returns-clause-fills c = none_map c.failure.result _ _
    (end_fills c.args.self.now.subject.now c.args.work c.kind.result c.args.state.now c.in_ok-went.went c.kind.ensures c.in_ok-went.ensures.goes)
    c.failure.ensures
