-- `quiet_ranges`: what holds at each turn of its loop.
use Rattle.std.proofs.Common.{◌≡◌, ◌++◌, drop, true}
use Rattle.std.specs.List.{list_all}
use Rattle.board_file.specs.Limits.{is_short}
use Rattle.board_file.specs.Written.{quiets_shown}
use Rattle.board_file.proofs.limits.quiet_ranges.Given as goal

abbrev pub invariant-written : goal.invariant-written
invariant-written l = record {
  said : l.found.items ++ quiets_shown (drop l.one-index l.written) ≡ quiets_shown l.written;
  short : list_all is_short (quiets_shown (drop l.one-index l.written)) ≡ true;
}
