-- `Subject::new`: what its calls ask for, and that its result meets the clauses of its type.
use Rattle.std.proofs.Common.{List, length, sym, ◌∙◌, ap, arith}
use Rattle.board_file.specs.declared.region.Region.{Region}
use Rattle.board_file.specs.Shown.{shown as board_of}
use Rattle.flm_descriptor.specs.Shown.{shown as algorithm_of}
use Rattle.flash_layout.specs.Areas.{areas_of, cells_in}
use Rattle.algo_calls.specs.Duties.{cells_before}
use Rattle.duty_trials.proofs.SubjectLemmas.{before_all, board_few, fit_within, is_placed}
use Rattle.duty_trials.proofs.subject.Subject.new.Goals as goal

pub unreachable-requires : goal.unreachable-requires
unreachable-requires c =
    let b = board_of c.args.board.now in
    let a = algorithm_of c.args.algorithm.now in
    let no = c.in-Err.ensures.exact ∙ is_placed b a c.args.region c.requires in
    absurd cc

pub cells_before-start-requires-clause-few : goal.cells_before-start-requires-clause-few
cells_before-start-requires-clause-few c = board_few c.args.board.now c.as_slice-regions.result.now c.as_slice-regions.ensures

pub cells_before-start-requires-clause-inside : goal.cells_before-start-requires-clause-inside
cells_before-start-requires-clause-inside c =
    let fit = fit_within (board_of c.args.board.now) (algorithm_of c.args.algorithm.now) c.args.region c.requires in
    omega (arith, fit.0, ap (λ (rs : List Region). length rs) c.as_slice-regions.ensures)

pub cells_before-cells-requires-clause-few : goal.cells_before-cells-requires-clause-few
cells_before-cells-requires-clause-few c = board_few c.args.board.now c.as_slice-regions.result.now c.as_slice-regions.ensures

pub invariant_of-result : goal.invariant_of-result
invariant_of-result c =
    let regions = c.as_slice-regions.result.now in
    let b = board_of c.args.board.now in
    let fit = fit_within b (algorithm_of c.args.algorithm.now) c.args.region c.requires in
    let start = c.cells_before-start.ensures ∙ ap (λ (rs : List Region). cells_before (areas_of rs) c.args.region) c.as_slice-regions.ensures in
    let cells = c.cells_before-cells.ensures ∙ before_all regions ∙ ap (λ (rs : List Region). cells_in (areas_of rs)) c.as_slice-regions.ensures in
    record {
      laid_out = sym c.in-Ok.ensures.exact;
      shaped = c.in_ok-geometry.ensures.geometry;
      begins = start;
      many = cells;
      within = omega (arith, fit.1, start, cells);
    }
