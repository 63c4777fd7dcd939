-- `read_destination`: that it keeps its contract.
use Rattle.std.proofs.Common.{sym, ◌∙◌}
use Rattle.armv6m_asm.proofs.StatementLemmas.{no_destination}
use Rattle.armv6m_asm.proofs.destination.read_destination.Goals as goal

pub returns-in-None : goal.returns-in-None
returns-in-None c = no_destination _ (sym c.is_name.ensures ∙ c.if-is_name.false) c.in-None.ensures
