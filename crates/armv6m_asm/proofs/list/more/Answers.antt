-- `more`: that no number overflows.
use Rattle.std.proofs.Common.{arith}
use Rattle.armv6m_asm.proofs.ListLemmas.{fits_more, clear}
use Rattle.armv6m_asm.proofs.list.more.Goals as goal

pub overflow_add-result : goal.overflow_add-result
overflow_add-result c =
    omega (arith, fits_more c.args.list c.args.number c.requires.low (omega arith) (clear c.args.list c.args.number c.requires.new))
