-- `Table::works_fill`: what holds at each turn of its loop.
use Rattle.std.proofs.Common.{◌≡◌, ◌<◌, ℕ, get_or}
use Rattle.duty_trials.specs.Lists.{count_of}
use Rattle.duty_trials.specs.Subjects.{site_in}
use Rattle.duty_runs.specs.declared.between.Between.{Between}
use Rattle.duty_table.specs.Tables.{CallsFill}
use Rattle.duty_table.proofs.table.Table.works_fill.Given as goal

abbrev pub invariant-loop-state : goal.invariant-loop-state
invariant-loop-state l = (l.self.subject ≡ l.fn.self.subject)
    × ((i : ℕ) (d : Between) → i < l.state-index
    → CallsFill l.fn.self.subject.now l.work l.states (get_or l.states i d) (count_of (site_in l.fn.self.subject.now).layout l.work))
