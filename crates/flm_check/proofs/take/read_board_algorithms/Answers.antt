-- `read_board_algorithms`: its contract, `ReadsBoardAlgorithms`, and what `read_algorithms` requires.
use Rattle.std.proofs.Common.{◌≡◌, ◌++◌, ap, subst, arith, ℕ, List, length, map, option_to_list}
use Rattle.std.proofs.lemmas.Result.{err_from_is_err_and}
use Rattle.board_file.specs.Shown as board
use Rattle.board_file.specs.Text.{IsBoard}
use Rattle.flm_descriptor.specs.Shown as flm
use Rattle.report_text.specs.Shown.{shown}
use Rattle.command_files.specs.Files.{AreFor}
use Rattle.command_files.specs.Steps.{bytes_of, IsBoardRefusal, AreFlmRefusal}
use Rattle.flm_check.proofs.BoardAlgorithmsLemmas.{board_refusal, count_of, flms_refusal, others_count}
use Rattle.flm_check.proofs.take.read_board_algorithms.Goals as goal

pub read_algorithms-requires : goal.read_algorithms-requires
read_algorithms-requires c =
    let count : length c.as_slice-regions.result.now ≡ length c.in_ok-board.board.regions = ap length c.as_slice-regions.ensures in
    omega (arith, count, others_count c.args.files.now.flm c.in_ok-board.board.regions c.requires)

pub returns-in_err-board : goal.returns-in_err-board
returns-in_err-board c =
    let p = err_from_is_err_and c.from_residual.result c.from_residual.ensures.1 in
    rw (p.1, p.2) (board_refusal (bytes_of c.args.files.now) (shown c.in_err-board.field-0.0)
    (subst (λ (text : List ℕ). IsBoardRefusal text (shown c.in_err-board.field-0.0)) c.bytes.ensures c.in_err-board.ensures))

pub returns-then-count-regions : goal.returns-then-count-regions
returns-then-count-regions c =
    let files = bytes_of c.args.files.now in
    let b = board.shown c.in_ok-board.board in
    let regions : length c.as_slice-regions.result.now ≡ length b.regions = ap length c.as_slice-regions.ensures in
    let others : length c.as_slice-others.result.now ≡ length files.images = ap length c.as_slice-others.ensures.value in
    record {
      board = b;
      is_board = subst (λ (text : List ℕ). IsBoard text b) c.bytes.ensures c.in_ok-board.ensures;
      other = λ same. absurd (omega (arith, regions, others, count_of files.flm files.images c.requires, same, c.if-count-regions.true));
    }

pub returns-in_err-algorithms : goal.returns-in_err-algorithms
returns-in_err-algorithms c =
    let files = bytes_of c.args.files.now in
    let b = board.shown c.in_ok-board.board in
    let count : length c.as_slice-regions.result.now ≡ length b.regions = ap length c.as_slice-regions.ensures in
    let others : length c.as_slice-others.result.now ≡ length files.images = ap length c.as_slice-others.ensures.value in
    let p = err_from_is_err_and c.from_residual-in_err-algorithms.result c.from_residual-in_err-algorithms.ensures.1 in
    rw (p.1, p.2) (flms_refusal files b (shown c.in_err-algorithms.field-0.0)
    (record {
      is_board = subst (λ (text : List ℕ). IsBoard text b) c.bytes.ensures c.in_ok-board.ensures;
      each = omega (arith, count, others, count_of files.flm files.images c.requires);
    })
    (subst (λ (l : List (List ℕ)). AreFlmRefusal b (option_to_list files.flm ++ l) (shown c.in_err-algorithms.field-0.0)) c.as_slice-others.ensures.value
    c.in_err-algorithms.ensures))

pub returns : goal.returns
returns c =
    let files = bytes_of c.args.files.now in
    let b = board.shown c.in_ok-board.board in
    let count : length c.as_slice-regions.result.now ≡ length b.regions = ap length c.as_slice-regions.ensures in
    let others : length c.as_slice-others.result.now ≡ length files.images = ap length c.as_slice-others.ensures.value in
    record {
      board_for = record {
        is_board = subst (λ (text : List ℕ). IsBoard text b) c.bytes.ensures c.in_ok-board.ensures;
        each = omega (arith, count, others, count_of files.flm files.images c.requires);
      };
      are_for = subst (λ (l : List (List ℕ)). AreFor b b.regions (option_to_list files.flm ++ l) (map flm.shown c.in_ok-algorithms.algorithms.items))
          c.as_slice-others.ensures.value
          c.in_ok-algorithms.ensures;
    }
