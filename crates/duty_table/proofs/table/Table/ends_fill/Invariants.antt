-- `Table::ends_fill`: what holds at each turn of its loop.
use Rattle.std.proofs.Common.{◌≡◌, ◌<◌, ℕ, get_or}
use Rattle.duty_runs.specs.declared.between.Between.{Between}
use Rattle.duty_table.specs.Tables.{EndFills}
use Rattle.duty_table.proofs.table.Table.ends_fill.Given as goal

abbrev pub invariant-loop-state : goal.invariant-loop-state
invariant-loop-state l = (l.self.subject ≡ l.fn.self.subject)
    × ((i : ℕ) (d : Between) → i < l.state-index → EndFills l.fn.self.subject.now l.work (get_or l.states i d))
