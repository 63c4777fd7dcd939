-- `with_quiet`: what holds at each turn of its loop.
use Rattle.std.proofs.Common.{◌≡◌, ◌++◌, drop}
use Rattle.board_file.specs.Limits.{quiet_parts}
use Rattle.board_file.specs.Written.{quiets_shown}
use Rattle.board_file.proofs.limits.with_quiet.Given as goal

abbrev pub invariant-written : goal.invariant-written
invariant-written l = l.found.items ++ quiet_parts (quiets_shown (drop l.one-index l.written)) ≡ l.fn.before.items ++ quiet_parts (quiets_shown l.written)
