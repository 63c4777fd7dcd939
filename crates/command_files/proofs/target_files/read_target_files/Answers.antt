-- `read_target_files`: its clauses `reads`, `short_second`, `short_board` and `short_flm`, and what `read_files` and `unwrap` require.
use Rattle.std.proofs.Common.{◌≡◌, ◌-◌, ap, inl, inr, refl, arith, ℕ, length}
use Rattle.std.proofs.lemmas.Result.{err_from_is_err_and}
use Rattle.board_file.specs.Shown as board
use Rattle.command_words.specs.Requested.{files_of}
use Rattle.command_files.specs.Inputs.{inputs_call}
use Rattle.command_files.specs.Steps.{bytes_of}
use Rattle.command_files.proofs.TargetFilesLemmas.{has_file, taken_is, one_short, flms_are}
use Rattle.command_files.proofs.target_files.read_target_files.Goals as goal

pub read_files-requires : goal.read_files-requires
read_files-requires g c = c.in_ok-files.ensures.takes.0.images.count

pub returns-in_err-files-clause-reads : goal.returns-in_err-files-clause-reads
returns-in_err-files-clause-reads g c =
    let p = err_from_is_err_and c.from_residual.result c.from_residual.ensures.1 in
    rw (p.1, p.2) (inl c.in_err-files.ensures.takes)

pub returns-in_err-wanted-clause-reads : goal.returns-in_err-wanted-clause-reads
returns-in_err-wanted-clause-reads g c =
    let p = err_from_is_err_and c.from_residual-in_err-wanted.result c.from_residual-in_err-wanted.ensures.1 in
    rw (p.1, p.2) (inr (record {
      given = record { files = bytes_of c.in_ok-files.files; are_files = c.in_ok-files.ensures.takes.0; holds = c.in_err-wanted.ensures };
      none_failed = c.in_ok-files.ensures.takes.1;
    }))

pub unwrap-requires : goal.unwrap-requires
unwrap-requires g c =
    has_file (inputs_call g.I.Inputs.tells (g.I.Inputs.state c.args.inputs.now) (g.I.Inputs.state c.take_files.new.inputs)) (files_of c.args.names.now)
    (bytes_of c.in_ok-files.files) c.requires.has_flm c.in_ok-files.ensures.takes.0

pub returns-clause-reads : goal.returns-clause-reads
returns-clause-reads g c =
    let files = bytes_of c.in_ok-files.files in
    let regions = c.in_ok-wanted.wanted.board.regions in
    let there = has_file (inputs_call g.I.Inputs.tells (g.I.Inputs.state c.args.inputs.now) (g.I.Inputs.state c.take_files.new.inputs))
    (files_of c.args.names.now)
    files c.requires.has_flm c.in_ok-files.ensures.takes.0 in
    let count : length c.as_slice.result.now ≡ length regions = ap length c.as_slice.ensures in
    let taken = taken_is files.images c.truncate.new.self.items c.pop.new.self.items (length c.as_slice.result.now - 1) c.pop.result c.truncate.ensures.items
    c.pop.ensures.items
    (λ less. (c.pop.ensures.variant).1 (omega (arith, less))) (omega (arith, count, c.in_ok-wanted.wanted.board.few_regions))
    (omega (arith, count, c.in_ok-wanted.ensures.are_read.board.enough there)) in
    record {
      given = record {
        files = files;
        are_files = c.in_ok-files.ensures.takes.0;
        holds = record {
          is_aim = c.in_ok-wanted.ensures;
          board_text = refl;
          flms = flms_are files (board.shown c.in_ok-wanted.wanted.board) (length c.as_slice.result.now - 1) c.unwrap.result c.pop.result c.unwrap.ensures
              (ap (λ (n : ℕ). n - 1) count) taken;
        };
      };
      none_failed = c.in_ok-files.ensures.takes.1;
    }

pub returns-clause-short_second : goal.returns-clause-short_second
returns-clause-short_second g c =
    let files = bytes_of c.in_ok-files.files in
    let there = has_file (inputs_call g.I.Inputs.tells (g.I.Inputs.state c.args.inputs.now) (g.I.Inputs.state c.take_files.new.inputs))
    (files_of c.args.names.now)
    files c.requires.has_flm c.in_ok-files.ensures.takes.0 in
    let count : length c.as_slice.result.now ≡ length c.in_ok-wanted.wanted.board.regions = ap length c.as_slice.ensures in
    let taken = taken_is files.images c.truncate.new.self.items c.pop.new.self.items (length c.as_slice.result.now - 1) c.pop.result c.truncate.ensures.items
    c.pop.ensures.items
    (λ less. (c.pop.ensures.variant).1 (omega (arith, less))) (omega (arith, count, c.in_ok-wanted.wanted.board.few_regions))
    (omega (arith, count, c.in_ok-wanted.ensures.are_read.board.enough there)) in
    one_short 67108864 files.images (length c.as_slice.result.now - 1) c.pop.result c.in_ok-files.ensures.short.images taken

pub returns-clause-short_board : goal.returns-clause-short_board
returns-clause-short_board g c = c.in_ok-files.ensures.short.board

pub returns-clause-short_flm : goal.returns-clause-short_flm
returns-clause-short_flm g c = c.in_ok-files.ensures.short.flm c.unwrap.result c.unwrap.ensures
