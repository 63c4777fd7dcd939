-- `load_many_into`: that it keeps its contract.
use Rattle.std.proofs.Common.{arith}
use Rattle.armv6m_step.proofs.ListLemmas.{each}
use Rattle.armv6m_step.proofs.RunLemmas.{asks}
use Rattle.std.proofs.lemmas.Bool.Decides.{nat_tests}
use Rattle.armv6m_step.proofs.many.load_many_into.Goals as goal

pub returns-in_err-load_list : goal.returns-in_err-load_list
returns-in_err-load_list g c = grind (arith, each, asks, nat_tests)

pub returns-then-by-eq0 : goal.returns-then-by-eq0
returns-then-by-eq0 g c = grind (arith, each, asks, nat_tests)

pub returns : goal.returns
returns g c = grind (arith, each, asks, nat_tests)
