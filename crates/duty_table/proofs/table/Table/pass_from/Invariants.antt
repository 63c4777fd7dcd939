-- `Table::pass_from`: what holds at each turn of its loop.
use Rattle.std.proofs.Common.{◌≡◌}
use Rattle.duty_table.proofs.table.Table.pass_from.Given as goal

abbrev pub invariant-loop-number : goal.invariant-loop-number
invariant-loop-number l = l.self.subject ≡ l.fn.self.subject
