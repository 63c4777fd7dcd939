-- `all_digits`: what holds at each turn of its loop.
use Rattle.std.proofs.Common.{◌≡◌, ◌&&◌, drop}
use Rattle.std.specs.List.{list_all}
use Rattle.record_lines.specs.Digits.{is_hex_digit}
use Rattle.record_lines.proofs.digits.all_digits.Given as goal

abbrev pub invariant-loop-byte : goal.invariant-loop-byte
invariant-loop-byte l = (l.all && list_all is_hex_digit (drop l.byte-index l.text)) ≡ list_all is_hex_digit l.text
