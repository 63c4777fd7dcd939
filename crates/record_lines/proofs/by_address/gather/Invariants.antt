-- `gather`: what holds at each turn of its loop, and what decreases at each turn.
use Rattle.std.proofs.Common.{◌+◌, ◌-◌, ◌≤◌, ◌^◌, ℕ, length}
use Rattle.octets.specs.Lines.{lines_of}
use Rattle.record_lines.specs.Gathered.{AreRunsBefore}
use Rattle.record_lines.proofs.Reading.{IsBehind}
use Rattle.record_lines.proofs.by_address.gather.Given as goal

abbrev pub invariant-loop-from : goal.invariant-loop-from
invariant-loop-from g l = record {
  read : (n : ℕ) × IsBehind g.S.RecordFormat.format l.text l.from l.known n × AreRunsBefore g.S.RecordFormat.format (lines_of l.text) n l.gathered;
  roomy : 2 ^ 64 - 1 ≤ g.S.RecordFormat.room l.known + l.from;
}

abbrev pub decreases-loop-from : goal.decreases-loop-from
decreases-loop-from g l = length l.text - l.from
