-- `last_list`: that its loop keeps its invariant.
use Rattle.std.proofs.Common.{sym, ◌∙◌}
use Rattle.armv6m_asm.proofs.ListLemmas.{list_of-more}
use Rattle.armv6m_asm.proofs.list.last_list.Goals as goal

pub registers-preserved : goal.registers-preserved
registers-preserved c =
    sym (list_of-more c.registers.list c.in_ok-list.list _ _ _ _ _ c.in_ok-register.ensures.split c.in_ok-next.ensures.split c.in-Comma.is
    (sym c.in_ok-list.ensures)) ∙ c.registers.invariant
