-- `one_statement_for_each_line`: its contract, `OneStatementForEachLine`.
use Rattle.armv6m_asm.proofs.LawLemmas.{one_statement}
use Rattle.armv6m_asm.proofs.law.one_statement_for_each_line.Goals as goal

pub returns : goal.returns
returns c = one_statement
