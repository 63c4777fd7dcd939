-- `read_special`: its clauses `some` and `known`.
use Rattle.std.proofs.Common.{arith, inr, refl}
use Rattle.std.proofs.lemmas.Grind.{common_steps}
use Rattle.armv6m_forms.specs.Text.{special_text}
use Rattle.armv6m_forms.proofs.word.read_special.Goals as goal

pub returns-in-APSR-clause-some : goal.returns-in-APSR-clause-some
unfolding special_text
returns-in-APSR-clause-some c = grind (arith, common_steps)

pub returns-in-MSP-clause-some : goal.returns-in-MSP-clause-some
unfolding special_text
returns-in-MSP-clause-some c = grind (arith, common_steps)

pub returns-in-PRIMASK-clause-known : goal.returns-in-PRIMASK-clause-known
returns-in-PRIMASK-clause-known c = inr (inr refl)
