-- `end_early`: what holds at each turn of its loop.
use Rattle.std.proofs.Common.{◌≡◌, drop}
use Rattle.std.specs.List.{list_any}
use Rattle.board_file.specs.Limits.{ends_late}
use Rattle.board_file.specs.Written.{quiets_shown}
use Rattle.board_file.proofs.limits.end_early.Given as goal

abbrev pub invariant-written : goal.invariant-written
invariant-written l = list_any ends_late (quiets_shown (drop l.one-index l.written)) ≡ list_any ends_late (quiets_shown l.written)
