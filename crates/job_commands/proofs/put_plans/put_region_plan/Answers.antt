-- `put_region_plan`: its contract, `Puts`, and that an index is in bounds.
use Rattle.std.proofs.Common.{◌≡◌, ◌∙◌, arith, ap, subst, List, length, get_or}
use Rattle.flm_descriptor.specs.declared.algorithm.Algorithm.{Algorithm}
use Rattle.job_text.specs.declared.job.Job.{Job}
use Rattle.report_text.specs.Region.{region_text}
use Rattle.flash_session.specs.Sessions.{job_in, surveyed}
use Rattle.job_commands.proofs.PrintLemmas.{base_text, told_then, told_cut}
use Rattle.job_commands.proofs.put_plans.put_region_plan.Goals as goal

pub bounds-algorithms-region : goal.bounds-algorithms-region
bounds-algorithms-region g c = omega (arith, c.requires.region, ap length c.as_slice-algorithms.ensures, ap (λ (k : Job). length k.algorithms) c.job.ensures)

pub returns-in_err-put_region : goal.returns-in_err-put_region
returns-in_err-put_region g c =
    let same : c.as_slice-algorithms.result.now ≡ (job_in c.args.session.now).algorithms = c.as_slice-algorithms.ensures
    ∙ ap (λ (k : Job). k.algorithms) c.job.ensures in
    let a = c.index-algorithms-region.result in
    told_cut g.O.Sink.tells (g.O.Sink.state c.args.out.now) (g.O.Sink.state c.put_region.new.out) c.args.region
    (region_text a.device.base) _ c.from_residual.result
    (surveyed c.args.session.now) c.from_residual.ensures.0
    (base_text (job_in c.args.session.now).algorithms c.args.region a c.requires.region
    (subst (λ (l : List Algorithm). a ≡ get_or l c.args.region a) same c.index-algorithms-region.is) (surveyed c.args.session.now) c.requires.plans)
    c.in_err-put_region.ensures

pub returns : goal.returns
returns g c =
    let same : c.as_slice-algorithms.result.now ≡ (job_in c.args.session.now).algorithms = c.as_slice-algorithms.ensures
    ∙ ap (λ (k : Job). k.algorithms) c.job.ensures in
    let a = c.index-algorithms-region.result in
    told_then g.O.Sink.tells (g.O.Sink.state c.args.out.now) (g.O.Sink.state c.put_region.new.out) c.args.region (g.O.Sink.state c.put_plan_of.new.out) _
    (region_text a.device.base)
    c.put_plan_of.result (surveyed c.args.session.now)
    (base_text (job_in c.args.session.now).algorithms c.args.region a c.requires.region
    (subst (λ (l : List Algorithm). a ≡ get_or l c.args.region a) same c.index-algorithms-region.is) (surveyed c.args.session.now) c.requires.plans)
    c.in_ok-put_region.ensures c.put_plan_of.ensures
