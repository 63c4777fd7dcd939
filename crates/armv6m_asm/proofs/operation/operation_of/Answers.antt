-- `operation_of`: its contract, `AreOperation`.
use Rattle.std.proofs.Common.{sym, ◌∙◌}
use Rattle.std.proofs.lemmas.Bool.{false≢true}
use Rattle.armv6m_asm.proofs.StatementLemmas.{no_operation}
use Rattle.armv6m_asm.proofs.operation.operation_of.Goals as goal

pub returns-in_default-read_aimed : goal.returns-in_default-read_aimed
returns-in_default-read_aimed c =
    no_operation _ _ (λ are. false≢true (sym c.if-is_align.false ∙ c.is_align.ensures.1 are))
    c.in_default.ensures c.in_default-read_plain.ensures c.in_default-read_aimed.ensures
