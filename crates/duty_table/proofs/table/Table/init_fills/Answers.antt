-- `Table::init_fills`: its clause `fills`.
use Rattle.duty_table.proofs.LastLemmas.{none_map, init_fills}
use Rattle.duty_table.proofs.table.Table.init_fills.Goals as goal

pub returns-clause-fills : goal.returns-clause-fills
returns-clause-fills c = none_map c.refusal.result _ _
    (init_fills c.args.self.now.subject.now c.args.work c.kind.result c.args.loaded.now c.args.states.now c.in_ok-went.went c.kind.ensures c.requires
    c.in_ok-went.ensures.goes) c.refusal.ensures
