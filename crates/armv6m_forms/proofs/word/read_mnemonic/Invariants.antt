-- `read_mnemonic`: what holds at each turn of its loop.
use Rattle.std.proofs.Common.{◌≢◌, ◌<◌, ℕ, get_or}
use Rattle.armv6m_forms.specs.Text.{text_of}
use Rattle.armv6m_forms.specs.declared.mnemonic.Mnemonic.TheVariants as mnemonic
use Rattle.armv6m_forms.specs.declared.word.TheConstants.{MNEMONICS}
use Rattle.armv6m_forms.proofs.word.read_mnemonic.Given as goal

abbrev pub invariant-loop-mnemonic : goal.invariant-loop-mnemonic
invariant-loop-mnemonic l = (k : ℕ) → k < l.mnemonic-index → text_of (get_or MNEMONICS k mnemonic.Lsls) ≢ l.word
