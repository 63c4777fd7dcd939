-- `hex_digits`: what holds at each turn of its loop.
use Rattle.std.proofs.Common.{◌≡◌, ◌-◌, ◌/◌, ◌^◌, drop, length}
use Rattle.octets.specs.Digit.{hex_text}
use Rattle.octets.proofs.digit.hex_digits.Given as goal

abbrev pub invariant-loop-place : goal.invariant-loop-place
invariant-loop-place g l = record {
  long : length l.text ≡ g.row.N;
  written : drop (g.row.N - l.place) l.text ≡ hex_text l.place l.fn.number;
  left : l.rest ≡ l.fn.number / 16 ^ l.place;
}
