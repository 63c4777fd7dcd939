-- `write_immediate`: its clause `text`.
use Rattle.std.proofs.Common.{arith}
use Rattle.std.proofs.lemmas.Grind.{common_steps}
use Rattle.armv6m_forms.specs.Text.{immediate_text}
use Rattle.armv6m_forms.proofs.text.write_immediate.Goals as goal

pub returns-clause-text : goal.returns-clause-text
unfolding immediate_text
returns-clause-text c = grind (arith, common_steps)
