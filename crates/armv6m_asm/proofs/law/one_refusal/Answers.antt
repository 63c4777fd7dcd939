-- `one_refusal`: its contract, `OneRefusal`.
use Rattle.armv6m_asm.proofs.OutcomeLemmas.{one_refusal}
use Rattle.armv6m_asm.proofs.law.one_refusal.Goals as goal

pub returns : goal.returns
returns c = one_refusal
