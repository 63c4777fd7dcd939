-- `read_register`: what holds at each turn of its loop.
use Rattle.std.proofs.Common.{◌≢◌, ◌<◌, ℕ}
use Rattle.armv6m_forms.specs.Text.{register_text}
use Rattle.armv6m_forms.proofs.word.read_register.Given as goal

abbrev pub invariant-loop-register : goal.invariant-loop-register
invariant-loop-register l = (k : ℕ) → k < l.register → register_text k ≢ l.word
