-- `gather_run`: what holds at each turn of its loop, and what decreases at each turn.
use Rattle.std.proofs.Common.{length, drop, ◌-◌, ◌≤◌, ◌+◌}
use Rattle.image_more.specs.Rows.{run_rows}
use Rattle.image_more.proofs.RowLemmas.{HasGathered}
use Rattle.image_more.proofs.text.gather_run.Given as goal

abbrev pub invariant-loop-from : goal.invariant-loop-from
invariant-loop-from g l = HasGathered g.O.Sink.tells (g.O.Sink.state l.initial.out) (g.O.Sink.state l.out) l.initial.text l.text l.initial.form l.form
    (run_rows l.at l.bytes)
    (run_rows (l.at + l.from) (drop l.from l.bytes)) × (l.from ≤ length l.bytes)

abbrev pub decreases-loop-from : goal.decreases-loop-from
decreases-loop-from g l = length l.bytes - l.from
