-- `put_quiet`: what holds at each turn of its loop.
use Rattle.std.proofs.Common.{take, Ok}
use Rattle.std.specs.List.{flat_map}
use Rattle.job_parts.specs.Board.{quiet_line}
use Rattle.outside_io.specs.Puts.{Puts}
use Rattle.job_parts.proofs.board.put_quiet.Given as goal

abbrev pub invariant-loop-range : goal.invariant-loop-range
invariant-loop-range g l = Puts g.O.Sink.tells (g.O.Sink.state l.initial.out) (g.O.Sink.state l.out) (flat_map quiet_line (take l.range-index l.ranges)) (Ok tt)
