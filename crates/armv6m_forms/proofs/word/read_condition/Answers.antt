-- `read_condition`: its clause `none`.
use Rattle.std.proofs.Common.{◌∙◌, ap, arith}
use Rattle.armv6m_decode.specs.Conditions.{condition_code}
use Rattle.armv6m_decode.proofs.ConditionLemmas.{code_below, stands_at_its_code}
use Rattle.armv6m_forms.specs.Text.{condition_text}
use Rattle.armv6m_forms.proofs.word.read_condition.Goals as goal

pub returns-clause-none : goal.returns-clause-none
returns-clause-none c = λ condition same.
    c.loop-condition.invariant (condition_code condition) (omega (arith, code_below condition)) (ap condition_text (stands_at_its_code condition) ∙ same)
