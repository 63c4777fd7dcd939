-- `survey`: its clauses `looks` and `plans`, and what `survey_parts` requires.
use Rattle.std.proofs.Common.{◌∙◌, sym}
use Rattle.std.proofs.lemmas.Result.{err_from_is_err_and}
use Rattle.device_dump.proofs.LooksLemmas.{looks_dropped, looks_by}
use Rattle.flm_cli.proofs.PlanLemmas.{plans_since}
use Rattle.flm_cli.proofs.plan.survey.Goals as goal

pub survey_parts-requires-clause-cells : goal.survey_parts-requires-clause-cells
survey_parts-requires-clause-cells g c = c.requires.cells ∙ sym c.in_ok-cells_drop.ensures.does.count

pub returns-in_err-cells_drop-clause-looks : goal.returns-in_err-cells_drop-clause-looks
returns-in_err-cells_drop-clause-looks g c =
    let p = err_from_is_err_and c.from_residual.result c.from_residual.ensures.1 in
    rw (p.1, p.2) (looks_dropped c.in_err-cells_drop.field-0.0 c.in_err-cells_drop.ensures.does)

pub returns-clause-plans : goal.returns-clause-plans
returns-clause-plans g c =
    plans_since g.B.Bench.tells c.args.wanted.now.board.weights c.args.wanted.now.image c.survey_parts.result (g.B.Bench.state c.cells_drop.new.self).cells
    (g.B.Bench.state c.survey_parts.new.bench).cells
    _ c.survey_parts.new.parts c.survey_parts.ensures.reads.cells c.survey_parts.ensures.plans

pub returns-clause-looks : goal.returns-clause-looks
returns-clause-looks g c = looks_by _ c.in_ok-cells_drop.ensures.does c.survey_parts.ensures.reads c.survey_parts.result c.survey_parts.ensures.cause
