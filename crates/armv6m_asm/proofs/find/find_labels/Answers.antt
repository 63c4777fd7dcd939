-- `find_labels`: its clauses `err` and `ok`, that its loop keeps its invariant, and that no number overflows.
use Rattle.std.proofs.Common.{◌+◌, ℕ, subst, sym, arith}
use Rattle.std.proofs.lemmas.Result.{err_from_is_err_and}
use Rattle.armv6m_asm.proofs.Steps.{HasFound, nothing, place_fits, found_more, found_fault, found_all}
use Rattle.armv6m_asm.proofs.find.find_labels.Goals as goal

pub returns-in_err-add_label-clause-err : goal.returns-in_err-add_label-clause-err
returns-in_err-add_label-clause-err c =
    let l = c.loop-statement in
    let p = err_from_is_err_and c.from_residual.result c.from_residual.ensures.1 in
    rw (p.1, p.2) (found_fault c.args.statements.now l.statement-index l.place nothing l.labels c.in_err-add_label.field-0.0
    (omega arith) l.invariant c.in_err-add_label.ensures.err)

pub overflow_add-place : goal.overflow_add-place
overflow_add-place c =
    let l = c.loop-statement in
    omega (arith, c.size-place.ensures, place_fits c.args.statements.now l.statement-index l.place nothing (omega arith) l.invariant.place_is c.requires.fits)

pub loop-statement-preserved : goal.loop-statement-preserved
loop-statement-preserved c =
    let l = c.loop-statement in
    subst (λ (size : ℕ). HasFound c.args.statements.now (l.statement-index + 1) (l.place + size) c.add_label.new.labels) (sym c.size-place.ensures)
    (found_more c.args.statements.now l.statement-index l.place nothing l.labels c.add_label.new.labels (omega arith) l.invariant c.in_ok-add_label.ensures.ok)

pub returns-clause-ok : goal.returns-clause-ok
returns-clause-ok c =
    let l = c.loop-statement in
    found_all c.args.statements.now l.statement-index l.place l.labels l.invariant (omega arith)
