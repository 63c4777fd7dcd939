-- `write_whole`: what holds at each turn of its loop, and what decreases at each turn.
use Rattle.std.proofs.Common.{◌-◌, ◌+◌, ◌^◌, length}
use Rattle.stream_files.proofs.RunLemmas.{IsTaken}
use Rattle.stream_files.proofs.stream_sink.write_whole.Given as goal

abbrev pub invariant-loop-done : goal.invariant-loop-done
invariant-loop-done g l = IsTaken g.S.Stream.tells (g.S.Stream.state l.fn.stream) (g.S.Stream.state l.stream) l.bytes l.done l.stops

abbrev pub decreases-loop-done : goal.decreases-loop-done
decreases-loop-done g l = length l.bytes - l.done + (2 ^ 64 - l.stops)
