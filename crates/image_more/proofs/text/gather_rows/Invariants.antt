-- `gather_rows`: what holds at each turn of its loop.
use Rattle.std.proofs.Common.{drop}
use Rattle.image_more.specs.Rows.{rows_of}
use Rattle.image_more.proofs.RowLemmas.{HasGathered}
use Rattle.image_more.proofs.text.gather_rows.Given as goal

abbrev pub invariant-loop-index : goal.invariant-loop-index
invariant-loop-index g l = HasGathered g.O.Sink.tells (g.O.Sink.state l.initial.out) (g.O.Sink.state l.out) l.initial.text l.text l.fn.first l.form
    (rows_of l.map) (rows_of (drop l.index l.map))
