-- `read_one`: its contract, `ReadsOne`.
use Rattle.std.proofs.lemmas.Result.{err_from_is_err_and}
use Rattle.board_file.specs.Shown as board
use Rattle.flm_descriptor.specs.Shown as flm
use Rattle.report_text.specs.Shown.{shown}
use Rattle.command_files.proofs.WantedLemmas.{unread_one, unfit_one}
use Rattle.command_files.proofs.wanted.read_one.Goals as goal

pub returns-in_err-algorithm : goal.returns-in_err-algorithm
returns-in_err-algorithm c =
    let p = err_from_is_err_and c.from_residual.result c.from_residual.ensures.1 in
    rw (p.1, p.2) (unread_one (board.shown c.args.board.now) c.args.region.now c.args.file.now c.in_err-algorithm.field-0.0 c.in_err-algorithm.ensures.refused)

pub returns-in_err-check_algorithm : goal.returns-in_err-check_algorithm
returns-in_err-check_algorithm c =
    let p = err_from_is_err_and c.from_residual-in_err-check_algorithm.result c.from_residual-in_err-check_algorithm.ensures.1 in
    rw (p.1, p.2) (unfit_one (board.shown c.args.board.now) c.args.region.now c.args.file.now (flm.shown c.in_ok-algorithm.algorithm)
    (shown c.in_err-check_algorithm.field-0.0)
    c.in_ok-algorithm.ensures.ok c.in_err-check_algorithm.ensures)
