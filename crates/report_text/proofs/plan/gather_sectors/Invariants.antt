-- `gather_sectors`: what holds at each turn of its loop.
use Rattle.std.proofs.Common.{Ok}
use Rattle.std.specs.Prelude.{codes}
use Rattle.report_text.specs.Plan.{texts_below, member_text}
use Rattle.outside_io.specs.Gathers.{Gathers}
use Rattle.report_text.proofs.plan.gather_sectors.Given as goal

abbrev pub invariant-loop-index : goal.invariant-loop-index
invariant-loop-index g l = Gathers g.O.Sink.tells (g.O.Sink.state l.initial.out) (g.O.Sink.state l.out) l.initial.text l.text
    (texts_below l.index (member_text (codes "erase") l.base l.geometry.sectors l.plan.made.sectors)) (Ok tt)
