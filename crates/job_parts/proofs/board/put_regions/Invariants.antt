-- `put_regions`: what holds at each turn of its loop.
use Rattle.std.proofs.Common.{take, Ok}
use Rattle.std.specs.List.{flat_map}
use Rattle.job_parts.specs.Board.{region_text}
use Rattle.outside_io.specs.Puts.{Puts}
use Rattle.job_parts.proofs.board.put_regions.Given as goal

abbrev pub invariant-loop-region : goal.invariant-loop-region
invariant-loop-region g l = Puts g.O.Sink.tells (g.O.Sink.state l.initial.out) (g.O.Sink.state l.out)
    (flat_map region_text (take l.region-index l.regions)) (Ok tt)
