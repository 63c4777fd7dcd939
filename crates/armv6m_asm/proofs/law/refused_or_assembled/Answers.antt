-- `refused_or_assembled`: its contract, `RefusedOrAssembled`.
use Rattle.armv6m_asm.proofs.OutcomeLemmas.{refused_or_assembled}
use Rattle.armv6m_asm.proofs.law.refused_or_assembled.Goals as goal

pub returns : goal.returns
returns c = refused_or_assembled
