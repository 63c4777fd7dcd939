-- `all_fit`: what holds at each turn of its loop.
use Rattle.std.proofs.Common.{◌≡◌, drop}
use Rattle.board_file.specs.Shown.{shown as board_shown}
use Rattle.job_text.specs.Fits.{all_fit}
use Rattle.job_text.specs.Said.{algorithms_shown}
use Rattle.job_text.proofs.fit.all_fit.Given as goal

abbrev pub invariant-regions : goal.invariant-regions
invariant-regions l =
    all_fit (board_shown l.board) (drop l.index l.board.regions) (algorithms_shown (drop l.index l.algorithms)) ≡ all_fit (board_shown l.board) l.board.regions
    (algorithms_shown l.algorithms)
