-- `put_sectors`: what holds at each turn of its loop.
use Rattle.std.proofs.Common.{take, Ok}
use Rattle.std.specs.List.{flat_map}
use Rattle.job_parts.specs.Board.{sectors_line}
use Rattle.outside_io.specs.Puts.{Puts}
use Rattle.job_parts.proofs.board.put_sectors.Given as goal

abbrev pub invariant-loop-run : goal.invariant-loop-run
invariant-loop-run g l = Puts g.O.Sink.tells (g.O.Sink.state l.initial.out) (g.O.Sink.state l.out) (flat_map sectors_line (take l.run-index l.runs)) (Ok tt)
