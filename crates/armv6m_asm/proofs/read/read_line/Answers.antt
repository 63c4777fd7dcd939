-- `read_line`: its clauses `cases` and `usable`.
use Rattle.std.proofs.Common.{inr, inl}
use Rattle.armv6m_asm.proofs.UsableLemmas.{statement_usable}
use Rattle.armv6m_asm.proofs.read.read_line.Goals as goal

pub returns-else-is_askew-clause-usable : goal.returns-else-is_askew-clause-usable
returns-else-is_askew-clause-usable c = statement_usable c.args.line.now c.in_ok-statement.statement c.in_ok-statement.ensures

pub returns-then-is_askew-clause-cases : goal.returns-then-is_askew-clause-cases
returns-then-is_askew-clause-cases c =
    inr (record {
      here = c.in_ok-statement.statement;
      statement = c.in_ok-statement.ensures;
      askew = c.is_askew.ensures.askew.0 c.if-is_askew.true;
    })

pub returns-else-is_askew-clause-cases : goal.returns-else-is_askew-clause-cases
returns-else-is_askew-clause-cases c = record { statement = c.in_ok-statement.ensures; aligned = c.is_askew.ensures.aligned c.if-is_askew.false }

pub returns-in_err-statement-clause-cases : goal.returns-in_err-statement-clause-cases
returns-in_err-statement-clause-cases c = rw c.from_residual.ensures (inl c.in_err-statement.ensures)

pub returns-in_err-statement-clause-usable : goal.returns-in_err-statement-clause-usable
returns-in_err-statement-clause-usable c = rw c.from_residual.ensures tt
