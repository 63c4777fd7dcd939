-- `Table::find`: what holds at each turn of its loop.
use Rattle.std.proofs.Common.{◌≡◌}
use Rattle.duty_table.proofs.table.Table.find.Given as goal

abbrev pub invariant-loop : goal.invariant-loop
invariant-loop l = l.self.subject ≡ l.fn.self.subject
