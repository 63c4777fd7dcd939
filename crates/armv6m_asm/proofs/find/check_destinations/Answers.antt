-- `check_destinations`: its clauses `err` and `ok`, and that its loop keeps its invariant.
use Rattle.std.proofs.Common.{List, subst, arith}
use Rattle.std.specs.Prelude.{Contains, All}
use Rattle.std.proofs.lemmas.List.{take_all}
use Rattle.std.proofs.lemmas.Result.{err_from_is_err_and}
use Rattle.armv6m_asm.specs.Label.{names_of}
use Rattle.armv6m_asm.specs.Assembly.{destinations_of}
use Rattle.armv6m_asm.specs.declared.statement.Statement.{Statement}
use Rattle.armv6m_asm.proofs.Steps.{nothing, destinations_more, destination_fault}
use Rattle.armv6m_asm.proofs.find.check_destinations.Goals as goal

pub returns-in_err-check_destination-clause-err : goal.returns-in_err-check_destination-clause-err
returns-in_err-check_destination-clause-err c =
    let l = c.loop-statement in
    let p = err_from_is_err_and c.from_residual.result c.from_residual.ensures.1 in
    rw (p.1, p.2) (destination_fault c.args.statements.now l.statement-index nothing (names_of c.args.labels.now) c.in_err-check_destination.field-0.0
    (omega arith) l.invariant c.in_err-check_destination.ensures.err)

pub loop-statement-preserved : goal.loop-statement-preserved
loop-statement-preserved c =
    destinations_more (Contains (names_of c.args.labels.now)) c.args.statements.now c.loop-statement.statement-index nothing
    (omega arith) c.loop-statement.invariant
    c.in_ok-check_destination.ensures.ok

pub returns-clause-ok : goal.returns-clause-ok
returns-clause-ok c =
    subst (λ (ss : List Statement). All (Contains (names_of c.args.labels.now)) (destinations_of ss))
    (take_all c.loop-statement.statement-index c.args.statements.now (omega arith)) c.loop-statement.invariant
