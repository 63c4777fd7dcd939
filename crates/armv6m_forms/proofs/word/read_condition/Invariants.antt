-- `read_condition`: what holds at each turn of its loop.
use Rattle.std.proofs.Common.{◌≢◌, ◌<◌, ℕ, get_or}
use Rattle.armv6m_decode.specs.declared.condition.Condition.TheVariants.{Equal}
use Rattle.armv6m_decode.specs.declared.condition.TheConstants.Condition.{ALL}
use Rattle.armv6m_forms.specs.Text.{condition_text}
use Rattle.armv6m_forms.proofs.word.read_condition.Given as goal

abbrev pub invariant-loop-condition : goal.invariant-loop-condition
invariant-loop-condition l = (k : ℕ) → k < l.condition-index → condition_text (get_or ALL k Equal) ≢ l.word
