-- `read_by_line`: what holds at each turn of its loop, and what decreases at each turn.
use Rattle.std.proofs.Common.{◌+◌, ◌-◌, ◌≤◌, ◌^◌, ℕ, length}
use Rattle.record_lines.proofs.Reading.{HasRead}
use Rattle.record_lines.proofs.by_line.read_by_line.Given as goal

abbrev pub invariant-loop-from : goal.invariant-loop-from
invariant-loop-from g l = record {
  read : (n : ℕ) × HasRead g.S.RecordFormat.format l.text l.from l.line l.known l.map n;
  roomy : 2 ^ 64 - 1 ≤ g.S.RecordFormat.room l.known + l.from;
}

abbrev pub decreases-loop-from : goal.decreases-loop-from
decreases-loop-from g l = length l.text - l.from
