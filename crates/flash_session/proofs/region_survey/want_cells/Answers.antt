-- `want_cells`: its clauses `wanted`, `reads`, `spares` and `cause`, and what `want_into` requires.
use Rattle.std.proofs.Common.{◌∙◌, ◌+◌, ℕ, List, sym, ap, subst, refl, arith}
use Rattle.std.proofs.lemmas.Bool.{false≢true}
use Rattle.bench_model.proofs.Moments.{file_stays_here, only_reads_here}
use Rattle.byte_map.specs.Image.{over}
use Rattle.flash_session.specs.declared.region_survey.Source.{Source}
use Rattle.flash_session.specs.Sources.{AreWanted, IsOverCells, IsSource}
use Rattle.flash_session.proofs.SurveyLemmas.{job_wanted}
use Rattle.flash_session.proofs.region_survey.want_cells.Goals as goal

pub want_into-requires-clause-range : goal.want_into-requires-clause-range
want_into-requires-clause-range g c =
    let is = subst (λ (x : Source). IsSource g.B.Bench.tells x (g.B.Bench.state c.args.bench.now)) c.in-Job.is c.requires.source in
    omega (arith, c.requires.range, c.requires.same, c.requires.inside, is.0)

pub want_into-requires-clause-stands : goal.want_into-requires-clause-stands
want_into-requires-clause-stands g c =
    (subst (λ (x : Source). IsSource g.B.Bench.tells x (g.B.Bench.state c.args.bench.now)) c.in-Job.is c.requires.source).1

pub returns-in-Job-clause-wanted : goal.returns-in-Job-clause-wanted
returns-in-Job-clause-wanted g c =
    let aim = c.args.aim.now in
    job_wanted c.want_into.result g.B.Bench.tells aim.source c.in-Job.job c.in-Job.goal (aim.start + c.args.at) (aim.algorithm.now.device.base + c.args.at) _
    (g.B.Bench.state c.args.bench.now).file c.args.cells.now c.want_into.new.out c.in-Job.is c.requires.same c.want_into.ensures.ok

pub returns-in-Job-clause-spares : goal.returns-in-Job-clause-spares
returns-in-Job-clause-spares g c = λ over. absurd (subst (λ (x : Source). IsOverCells x) c.in-Job.is over)

pub returns-in-Cells-clause-wanted : goal.returns-in-Cells-clause-wanted
returns-in-Cells-clause-wanted g c =
    let aim = c.args.aim.now in
    let address = aim.algorithm.now.device.base + c.args.at in
    subst (λ (x : Source). AreWanted g.B.Bench.tells x (aim.start + c.args.at) address (g.B.Bench.state c.args.bench.now).file c.args.cells.now
    c.overlay_into.new.old) (sym c.in-Cells.is)
    (c.overlay_into.ensures ∙ ap (λ (l : List ℕ). over c.in-Cells.image.now address l) c.copy_from_slice.ensures.after)

pub returns-in-Cells-clause-spares : goal.returns-in-Cells-clause-spares
returns-in-Cells-clause-spares g c = λ over. (file_stays_here (g.B.Bench.state c.args.bench.now), refl)

pub returns-in-Cells-clause-reads : goal.returns-in-Cells-clause-reads
returns-in-Cells-clause-reads g c = only_reads_here g.B.Bench.tells (g.B.Bench.state c.args.bench.now)

pub returns-in-Cells-clause-cause : goal.returns-in-Cells-clause-cause
returns-in-Cells-clause-cause g c = record { later = omega arith; on_fault = λ failed. absurd (false≢true failed); on_ok = λ fine. refl }
