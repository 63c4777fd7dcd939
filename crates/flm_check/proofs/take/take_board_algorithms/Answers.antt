-- `take_board_algorithms`: its contract, `TakesBoardAlgorithms`, and what `read_board_algorithms` requires.
use Rattle.std.proofs.Common.{inl}
use Rattle.std.proofs.lemmas.Result.{err_from_is_err_and}
use Rattle.command_words.specs.Requested.{files_of}
use Rattle.command_files.specs.Inputs.{inputs_call}
use Rattle.command_files.specs.Steps.{bytes_of}
use Rattle.command_files.proofs.TargetFilesLemmas.{has_file}
use Rattle.flm_check.proofs.BoardAlgorithmsLemmas.{takes_read}
use Rattle.flm_check.proofs.take.take_board_algorithms.Goals as goal

pub read_board_algorithms-requires : goal.read_board_algorithms-requires
read_board_algorithms-requires g c =
    has_file (inputs_call g.I.Inputs.tells (g.I.Inputs.state c.args.inputs.now) (g.I.Inputs.state c.take_files.new.inputs)) (files_of c.args.names.now)
    (bytes_of c.in_ok-files.files) c.requires.has_flm c.in_ok-files.ensures.takes.0

pub returns-in_err-files : goal.returns-in_err-files
returns-in_err-files g c =
    let p = err_from_is_err_and c.from_residual.result c.from_residual.ensures.1 in
    rw (p.1, p.2) (inl c.in_err-files.ensures.takes)

pub returns : goal.returns
returns g c =
    takes_read (inputs_call g.I.Inputs.tells (g.I.Inputs.state c.args.inputs.now) (g.I.Inputs.state c.take_files.new.inputs)) (files_of c.args.names.now)
    (bytes_of c.in_ok-files.files) c.read_board_algorithms.result c.read_board_algorithms.ensures c.in_ok-files.ensures.takes.0 c.in_ok-files.ensures.takes.1
