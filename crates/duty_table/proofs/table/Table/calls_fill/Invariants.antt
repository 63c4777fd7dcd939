-- `Table::calls_fill`: what holds at each turn of its loop.
use Rattle.std.proofs.Common.{◌≡◌}
use Rattle.duty_table.specs.Tables.{CallsFill}
use Rattle.duty_table.proofs.table.Table.calls_fill.Given as goal

abbrev pub invariant-loop-number : goal.invariant-loop-number
invariant-loop-number l = (l.self.subject ≡ l.fn.self.subject) × CallsFill l.fn.self.subject.now l.work l.states l.state l.number
