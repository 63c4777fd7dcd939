-- `align_pads`: its contract, `AlignPads`.
use Rattle.armv6m_asm.proofs.Even.{align_pads}
use Rattle.armv6m_asm.proofs.assembler.align_pads.Goals as goal

pub returns : goal.returns
returns c = align_pads
