-- `write_code`: its clauses `err` and `ok`, what `add_operation` requires, that no number overflows, and that its loop keeps its invariant.
use Rattle.std.proofs.Common.{◌+◌, ℕ, subst, sym, arith}
use Rattle.std.proofs.lemmas.Grind.{common_steps}
use Rattle.std.specs.Prelude.{Contains}
use Rattle.std.proofs.lemmas.Result.{err_from_is_err_and}
use Rattle.armv6m_asm.specs.Label.{names_of}
use Rattle.armv6m_asm.proofs.Steps.{HasWritten, nothing, place_fits, destinations_here, written_more, written_fault}
use Rattle.armv6m_asm.proofs.code.write_code.Goals as goal

pub add_operation-requires-clause-there : goal.add_operation-requires-clause-there
add_operation-requires-clause-there c =
    destinations_here (Contains (names_of c.args.labels.now)) c.args.statements.now c.loop-statement.statement-index nothing (omega arith) c.requires.there

pub returns-in_err-add_operation-clause-err : goal.returns-in_err-add_operation-clause-err
returns-in_err-add_operation-clause-err c =
    let l = c.loop-statement in
    let p = err_from_is_err_and c.from_residual.result c.from_residual.ensures.1 in
    rw (p.1, p.2) (written_fault c.args.labels.now c.args.statements.now l.statement-index l.place l.line nothing l.bytes.items c.in_err-add_operation.field-0.0
    (omega arith) l.invariant c.in_err-add_operation.ensures.err)

pub overflow_add-place : goal.overflow_add-place
overflow_add-place c =
    let l = c.loop-statement in
    omega (arith, c.size-place.ensures, place_fits c.args.statements.now l.statement-index l.place nothing (omega arith) l.invariant.place_is c.requires.fits)

pub loop-statement-preserved : goal.loop-statement-preserved
loop-statement-preserved c =
    let l = c.loop-statement in
    subst (λ (size : ℕ). HasWritten c.args.labels.now c.args.statements.now (l.statement-index + 1) (l.place + size)
    (l.line + 1) c.add_operation.new.bytes.items) (sym c.size-place.ensures)
    (written_more c.args.labels.now c.args.statements.now l.statement-index l.place l.line nothing l.bytes.items c.add_operation.new.bytes.items
    (omega arith) l.invariant c.in_ok-add_operation.ensures.ok)

pub returns-clause-ok : goal.returns-clause-ok
returns-clause-ok c = grind (arith, common_steps)

pub add_operation-requires-clause-usable : goal.add_operation-requires-clause-usable
add_operation-requires-clause-usable c = grind (arith, common_steps)
