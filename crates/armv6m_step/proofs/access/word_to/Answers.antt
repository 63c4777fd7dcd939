-- `word_to`: that it keeps its contract.
use Rattle.std.proofs.Common.{arith}
use Rattle.std.proofs.lemmas.Bool.Decides.{nat_tests}
use Rattle.armv6m_step.specs.Meaning.{LoadGives, StoreGives}
use Rattle.armv6m_step.proofs.access.word_to.Goals as goal

pub returns-then-poke32 : goal.returns-then-poke32
unfolding LoadGives StoreGives
returns-then-poke32 g c = grind (arith, nat_tests)

pub returns : goal.returns
unfolding LoadGives StoreGives
returns g c = grind (arith, nat_tests)
