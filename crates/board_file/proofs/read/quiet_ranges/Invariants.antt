-- `quiet_ranges`: what holds at each turn of its loop.
use Rattle.std.proofs.Common.{◌≡◌, drop}
use Rattle.toml.specs.View.{items_view}
use Rattle.board_file.specs.Text.{quiet_ranges}
use Rattle.board_file.specs.Written.{quiets_shown}
use Rattle.board_file.proofs.Items.{with_quiet}
use Rattle.board_file.proofs.read.quiet_ranges.Given as goal

abbrev pub invariant-tables : goal.invariant-tables
invariant-tables l = with_quiet (quiets_shown l.found.items) (quiet_ranges (items_view (drop l.table-index l.tables))) ≡ quiet_ranges (items_view l.tables)
