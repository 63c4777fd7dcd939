-- `Table::pass`: what holds at each turn of its loop.
use Rattle.std.proofs.Common.{◌≡◌}
use Rattle.duty_table.proofs.table.Table.pass.Given as goal

abbrev pub invariant-loop-at : goal.invariant-loop-at
invariant-loop-at l = l.self.subject ≡ l.fn.self.subject
