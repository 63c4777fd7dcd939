-- `load_list`: that it keeps its contract, and that its loop keeps its invariant.
use Rattle.std.proofs.Common.{arith}
use Rattle.armv6m_step.proofs.ListLemmas.{loaded_so_far}
use Rattle.std.proofs.lemmas.Bool.Decides.{nat_tests}
use Rattle.armv6m_step.proofs.many.load_list.Goals as goal

pub returns-in_err-value : goal.returns-in_err-value
returns-in_err-value g c = grind (arith, loaded_so_far, nat_tests)

pub loop-left-preserved : goal.loop-left-preserved
loop-left-preserved g c = grind (arith, loaded_so_far, nat_tests)

pub loop-left-init : goal.loop-left-init
loop-left-init g c = grind (arith, loaded_so_far, nat_tests)

pub returns : goal.returns
returns g c = grind (arith, loaded_so_far, nat_tests)
