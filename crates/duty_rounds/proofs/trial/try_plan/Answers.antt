-- `try_plan`: that it keeps its contract.
use Rattle.std.proofs.Common.{arith}
use Rattle.std.proofs.lemmas.Grind.{common_steps}
use Rattle.duty_trials.specs.Subjects.{board_in, algorithm_in}
use Rattle.duty_rounds.proofs.RoundLemmas.{breaks_as}
use Rattle.duty_rounds.proofs.trial.try_plan.Goals as goal

pub returns : goal.returns
returns c =
    let b = board_in c.args.subject.now in
    let a = algorithm_in c.args.subject.now in
    c.in_ok-verdict_of.ensures b a (breaks_as b a c.args.subject.now.region c.args.plan.now.work c.deref-2.result.now c.put_contents.new.cells
    c.try_list-ended.new.ideal
    c.try_list-ended.result c.try_list-ended.ensures.broken)

pub put_contents-requires-clause-cells : goal.put_contents-requires-clause-cells
put_contents-requires-clause-cells c = grind (arith, common_steps)

pub try_list-ended-requires-clause-stands : goal.try_list-ended-requires-clause-stands
try_list-ended-requires-clause-stands c = grind (arith, common_steps)

pub new-requires : goal.new-requires
new-requires c = grind (arith, common_steps)

pub try_list-ended-requires-clause-long : goal.try_list-ended-requires-clause-long
try_list-ended-requires-clause-long c = grind (arith, common_steps)

pub try_list-ended-requires-clause-setup : goal.try_list-ended-requires-clause-setup
try_list-ended-requires-clause-setup c = grind (arith, common_steps)
