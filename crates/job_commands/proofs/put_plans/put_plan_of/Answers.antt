-- `put_plan_of`: its contract, `Puts`, what `geometry_of`, `plan_of` and `put_plan` require, and that an index is in bounds.
use Rattle.std.proofs.Common.{◌≡◌, ◌∙◌, arith, ap, subst, List, length, get_or}
use Rattle.flm_descriptor.specs.declared.algorithm.Algorithm.{Algorithm}
use Rattle.job_text.specs.declared.job.Job.{Job}
use Rattle.report_text.specs.Plan.{plan_text}
use Rattle.flash_session.specs.Sessions.{job_in, surveyed}
use Rattle.job_commands.specs.Work.{shown_region}
use Rattle.job_commands.proofs.FitLemmas.{as_many_regions}
use Rattle.job_commands.proofs.PrintLemmas.{fits_memory, text_at, put_text, some_surveyed}
use Rattle.job_commands.proofs.put_plans.put_plan_of.Goals as goal

pub bounds-algorithms-region : goal.bounds-algorithms-region
bounds-algorithms-region g c = omega (arith, c.requires.region, ap length c.as_slice-algorithms.ensures, ap (λ (k : Job). length k.algorithms) c.job.ensures)

pub geometry_of-geometry-requires-clause-surveyed : goal.geometry_of-geometry-requires-clause-surveyed
geometry_of-geometry-requires-clause-surveyed g c = some_surveyed _ (surveyed c.args.session.now) c.requires.plans

pub geometry_of-geometry-requires-clause-region : goal.geometry_of-geometry-requires-clause-region
geometry_of-geometry-requires-clause-region g c = omega (arith, c.requires.region, as_many_regions (job_in c.args.session.now))

pub plan_of-plan-requires-clause-surveyed : goal.plan_of-plan-requires-clause-surveyed
plan_of-plan-requires-clause-surveyed g c = some_surveyed _ (surveyed c.args.session.now) c.requires.plans

pub plan_of-plan-requires-clause-region : goal.plan_of-plan-requires-clause-region
plan_of-plan-requires-clause-region g c = omega (arith, c.requires.region, as_many_regions (job_in c.args.session.now))

pub put_plan-requires : goal.put_plan-requires
put_plan-requires g c =
    let same : c.as_slice-algorithms.result.now ≡ (job_in c.args.session.now).algorithms = c.as_slice-algorithms.ensures
    ∙ ap (λ (k : Job). k.algorithms) c.job.ensures in
    let a = c.index-algorithms-region.result in
    fits_memory (job_in c.args.session.now).algorithms c.args.region a c.requires.region
    (subst (λ (l : List Algorithm). a ≡ get_or l c.args.region a) same c.index-algorithms-region.is) c.geometry_of-geometry.result.now
    c.plan_of-plan.result.now.made
    (surveyed c.args.session.now) c.requires.plans c.geometry_of-geometry.ensures

pub returns : goal.returns
returns g c =
    let same : c.as_slice-algorithms.result.now ≡ (job_in c.args.session.now).algorithms = c.as_slice-algorithms.ensures
    ∙ ap (λ (k : Job). k.algorithms) c.job.ensures in
    let a = c.index-algorithms-region.result in
    put_text g.O.Sink.tells (g.O.Sink.state c.args.out.now) (g.O.Sink.state c.put_plan.new.out)
    (plan_text c.geometry_of-geometry.result.now a.device.base c.plan_of-plan.result.now.made) c.put_plan.result (surveyed c.args.session.now)
    (λ v other. (shown_region (get_or v.regions c.args.region other)).1)
    (text_at (job_in c.args.session.now).algorithms c.args.region a c.requires.region
    (subst (λ (l : List Algorithm). a ≡ get_or l c.args.region a) same c.index-algorithms-region.is) c.geometry_of-geometry.result.now
    c.plan_of-plan.result.now.made
    (surveyed c.args.session.now) c.requires.plans c.geometry_of-geometry.ensures c.plan_of-plan.ensures)
    c.put_plan.ensures
