-- `byte_to`: that it keeps its contract.
use Rattle.std.proofs.Common.{arith}
use Rattle.std.proofs.lemmas.Bool.Decides.{nat_tests}
use Rattle.armv6m_step.specs.Meaning.{LoadGives, StoreGives}
use Rattle.armv6m_step.proofs.access.byte_to.Goals as goal

pub returns-then-poke8 : goal.returns-then-poke8
unfolding LoadGives StoreGives
returns-then-poke8 g c = grind (arith, nat_tests)
