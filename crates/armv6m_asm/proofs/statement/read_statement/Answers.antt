-- `read_statement`: its contract, `IsStatement`.
use Rattle.std.proofs.Common.{sym, ◌∙◌, refl}
use Rattle.armv6m_asm.proofs.StatementLemmas.{no_rest, no_label, no_colon_then}
use Rattle.armv6m_asm.proofs.statement.read_statement.Goals as goal

pub returns-in-Some-2 : goal.returns-in-Some-2
returns-in-Some-2 c =
    λ statement. no_label _ _ _ c.in-Some.ensures (sym c.is_name.ensures ∙ c.if-is_name.false) statement.label statement.operation

pub returns-in_ok-operation-in-Some : goal.returns-in_ok-operation-in-Some
returns-in_ok-operation-in-Some c = rw c.in-Some.ensures ((refl, sym c.is_name.ensures ∙ c.if-is_name.true), (refl, c.in_ok-operation-in-Some.ensures))

pub returns-in_ok-operation-in-None : goal.returns-in_ok-operation-in-None
returns-in_ok-operation-in-None c = c.in_ok-operation-in-None.ensures

pub returns-in_err-operation-in-None : goal.returns-in_err-operation-in-None
returns-in_err-operation-in-None c =
    rw c.from_residual.ensures (λ statement.
    no_colon_then _ c.in-None.ensures c.in_err-operation-in-None.ensures statement.label statement.operation)

pub returns-in_err-operation-in-Some : goal.returns-in_err-operation-in-Some
returns-in_err-operation-in-Some c =
    rw c.from_residual-in_err-operation-in-Some.ensures (λ statement.
    no_rest _ _ _ c.in-Some.ensures c.in_err-operation-in-Some.ensures statement.label statement.operation)
