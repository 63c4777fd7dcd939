-- `read_all`: its clauses `err` and `ok`, and that its loop keeps its invariant.
use Rattle.std.proofs.Common.{◌+◌, List, subst, sym, arith}
use Rattle.octets.specs.Lines.{lines_of}
use Rattle.armv6m_asm.specs.declared.statement.Statement.{Statement}
use Rattle.armv6m_asm.specs.declared.fault.AsmFault.{AsmFault}
use Rattle.armv6m_asm.specs.Passes.{IsReadFault}
use Rattle.armv6m_asm.proofs.Steps.{HasRead, read_more, read_bad, read_whole}
use Rattle.armv6m_asm.proofs.read.read_all.Goals as goal

pub returns-in-None-clause-err : goal.returns-in-None-clause-err
returns-in-None-clause-err c =
    let l = c.loop-from in
    let text = c.args.text.now in
    subst (λ (fault : AsmFault). IsReadFault (lines_of text) fault) (sym c.bad_line.ensures)
    (read_bad text l.from l.place c.next_line-start.result.2 l.statements.items _ (c.len.result + 1) l.invariant c.next_line-start.ensures.lines
    c.in-None.ensures.cases (omega (arith, c.len.ensures, l.statements.ok.0)))

pub loop-from-preserved : goal.loop-from-preserved
loop-from-preserved c =
    let l = c.loop-from in
    let text = c.args.text.now in
    let s = c.in-Some.statement in
    subst (λ (ss : List Statement). HasRead text c.next_line-start.result.2 c.in_ok-place-in-Some.place ss) (sym c.in_ok-push-in-Some.ensures.items)
    (read_more text l.from l.place c.next_line-start.result.2 l.statements.items _ s c.in_ok-place-in-Some.place l.invariant c.next_line-start.ensures.lines
    c.in-Some.ensures.cases c.in-Some.ensures.usable c.in_ok-place-in-Some.ensures.ok c.in_ok-place-in-Some.ensures.fits)

pub returns-clause-ok : goal.returns-clause-ok
returns-clause-ok c =
    read_whole c.args.text.now c.loop-from.from c.loop-from.place c.loop-from.statements.items c.loop-from.invariant c.loop-from-test.false
