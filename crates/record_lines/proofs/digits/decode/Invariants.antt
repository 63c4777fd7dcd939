-- `decode`: what holds at each turn of its loop.
use Rattle.std.proofs.Common.{◌≡◌, ℕ, ◌<◌, get_or}
use Rattle.record_lines.specs.Digits.{pairs}
use Rattle.record_lines.proofs.digits.decode.Given as goal

abbrev pub invariant-loop-index : goal.invariant-loop-index
invariant-loop-index l = (k : ℕ) → k < l.index → get_or l.out k 0 ≡ get_or (pairs l.digits) k 0
