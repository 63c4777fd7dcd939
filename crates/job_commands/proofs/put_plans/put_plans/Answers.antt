-- `put_plans`: its contract, `Puts`, and what `put_plan_of` and `put_region_plan` require.
use Rattle.std.proofs.Common.{◌≡◌, arith, ap, length}
use Rattle.job_text.specs.declared.job.Job.{Job}
use Rattle.flash_session.specs.Sessions.{job_in, surveyed}
use Rattle.job_commands.proofs.FitLemmas.{some_algorithm, few_algorithms}
use Rattle.job_commands.proofs.PrintLemmas.{puts_one, puts_two, puts_cut}
use Rattle.job_commands.proofs.put_plans.put_plans.Goals as goal

pub put_plan_of-requires-clause-region : goal.put_plan_of-requires-clause-region
put_plan_of-requires-clause-region g c = some_algorithm (job_in c.args.session.now)

pub put_region_plan-requires-clause-region : goal.put_region_plan-requires-clause-region
put_region_plan-requires-clause-region g c = some_algorithm (job_in c.args.session.now)

pub put_region_plan-requires-2-clause-region : goal.put_region_plan-requires-2-clause-region
put_region_plan-requires-2-clause-region g c =
    omega (
      arith,
      some_algorithm (job_in c.args.session.now),
      c.if-count-eq1.false,
      ap length c.as_slice-count.ensures,
      ap (λ (k : Job). length k.algorithms) c.job.ensures,
    )

pub returns-then-count-eq1 : goal.returns-then-count-eq1
returns-then-count-eq1 g c =
    let one : length (job_in c.args.session.now).algorithms ≡ 1 =
    omega (arith, c.if-count-eq1.true, ap length c.as_slice-count.ensures, ap (λ (k : Job). length k.algorithms) c.job.ensures) in
    puts_one g.O.Sink.tells (job_in c.args.session.now).algorithms (g.O.Sink.state c.args.out.now) (g.O.Sink.state c.put_plan_of.new.out)
    (g.O.Sink.state c.put_plan_of.new.out)
    c.put_plan_of.result (surveyed c.args.session.now) one c.requires c.put_plan_of.ensures

pub returns-in_err-put_region_plan : goal.returns-in_err-put_region_plan
returns-in_err-put_region_plan g c =
    let two : length (job_in c.args.session.now).algorithms ≡ 2 =
    omega (
      arith,
      some_algorithm (job_in c.args.session.now),
      few_algorithms (job_in c.args.session.now),
      c.if-count-eq1.false,
      ap length c.as_slice-count.ensures,
      ap (λ (k : Job). length k.algorithms) c.job.ensures,
    ) in
    puts_cut g.O.Sink.tells (job_in c.args.session.now).algorithms (g.O.Sink.state c.args.out.now) (g.O.Sink.state c.put_region_plan.new.out)
    (g.O.Sink.state c.put_region_plan.new.out)
    _ c.from_residual.result (surveyed c.args.session.now) c.from_residual.ensures.0 two c.requires c.in_err-put_region_plan.ensures

pub returns : goal.returns
returns g c =
    let two : length (job_in c.args.session.now).algorithms ≡ 2 =
    omega (
      arith,
      some_algorithm (job_in c.args.session.now),
      few_algorithms (job_in c.args.session.now),
      c.if-count-eq1.false,
      ap length c.as_slice-count.ensures,
      ap (λ (k : Job). length k.algorithms) c.job.ensures,
    ) in
    puts_two g.O.Sink.tells (job_in c.args.session.now).algorithms (g.O.Sink.state c.args.out.now) (g.O.Sink.state c.put_region_plan.new.out)
    (g.O.Sink.state c.put_region_plan-2.new.out)
    _ c.put_region_plan-2.result (surveyed c.args.session.now) two c.requires c.in_ok-put_region_plan.ensures c.put_region_plan-2.ensures
