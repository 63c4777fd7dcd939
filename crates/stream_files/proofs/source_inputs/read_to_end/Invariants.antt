-- `read_to_end`: what holds at each turn of its loop, and what decreases at each turn.
use Rattle.std.proofs.Common.{◌≤◌, ◌-◌, ◌+◌, ◌^◌, vec_len}
use Rattle.stream_files.proofs.RunLemmas.{IsRead}
use Rattle.stream_files.proofs.source_inputs.read_to_end.Given as goal

abbrev pub invariant-loop-stops : goal.invariant-loop-stops
invariant-loop-stops g l = (vec_len l.bytes ≤ 67108864)
    × IsRead g.S.Source.tells (g.S.Source.state l.fn.source) (g.S.Source.state l.source) l.fn.bytes.items l.bytes.items l.stops

abbrev pub decreases-loop-stops : goal.decreases-loop-stops
decreases-loop-stops g l = 67108864 - vec_len l.bytes + (2 ^ 64 - l.stops)
