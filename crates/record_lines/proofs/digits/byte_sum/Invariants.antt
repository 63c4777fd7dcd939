-- `byte_sum`: what holds at each turn of its loop.
use Rattle.std.proofs.Common.{◌≡◌, ◌≤◌, ◌*◌, take, sum}
use Rattle.record_lines.proofs.digits.byte_sum.Given as goal

abbrev pub invariant-loop-byte : goal.invariant-loop-byte
invariant-loop-byte l = (l.total ≡ sum (take l.byte-index l.bytes)) × (l.total ≤ 255 * l.byte-index)
