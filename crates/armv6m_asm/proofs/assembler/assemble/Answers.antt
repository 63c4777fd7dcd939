-- `assemble`: its clauses `err` and `ok`, and what `find_labels`, `check_destinations` and `write_code` require.
use Rattle.std.proofs.lemmas.Grind.{common_steps}
use Rattle.std.proofs.Common.{List, subst, sym, arith}
use Rattle.std.specs.Prelude.{All, Contains}
use Rattle.std.proofs.lemmas.Result.{err_from_is_err_and}
use Rattle.armv6m_asm.specs.declared.statement.Statement.{Statement}
use Rattle.armv6m_asm.specs.Label.{names_of}
use Rattle.armv6m_asm.specs.Assembly.{destinations_of, AreBytes}
use Rattle.armv6m_asm.specs.Passes.{FindsLabels, IsCodeFault, IsDestinationFault}
use Rattle.armv6m_asm.proofs.Steps.{text_code_fault, text_assembled, text_destination_fault}
use Rattle.armv6m_asm.proofs.assembler.assemble.Goals as goal

pub write_code-requires-clause-there : goal.write_code-requires-clause-there
write_code-requires-clause-there c =
    let there = subst (λ (ss : List Statement). All (Contains (names_of c.in_ok-labels.labels)) (destinations_of ss)) c.as_slice-2.ensures.value
    c.in_ok-check_destinations.ensures.ok in
    subst (λ (ss : List Statement). All (Contains (names_of c.in_ok-labels.labels)) (destinations_of ss)) (sym c.as_slice-3.ensures.value) there

pub returns-in_err-bytes-clause-err : goal.returns-in_err-bytes-clause-err
returns-in_err-bytes-clause-err c =
    let statements = c.in_ok-statements.statements.items in
    let labels = c.in_ok-labels.labels in
    let found = subst (λ (ss : List Statement). FindsLabels ss labels) c.as_slice.ensures.value c.in_ok-labels.ensures.ok in
    let there = subst (λ (ss : List Statement). All (Contains (names_of labels)) (destinations_of ss)) c.as_slice-2.ensures.value
    c.in_ok-check_destinations.ensures.ok in
    let fault = subst (λ (ss : List Statement). IsCodeFault labels ss c.in_err-bytes.field-0.0) c.as_slice-3.ensures.value c.in_err-bytes.ensures.err in
    let p = err_from_is_err_and c.from_residual-in_err-bytes.result c.from_residual-in_err-bytes.ensures.1 in
    rw (p.1, p.2) (text_code_fault c.args.text.now statements labels c.in_err-bytes.field-0.0 c.in_ok-statements.ensures.ok found there fault)

pub returns-clause-ok : goal.returns-clause-ok
returns-clause-ok c =
    let statements = c.in_ok-statements.statements.items in
    let labels = c.in_ok-labels.labels in
    let found = subst (λ (ss : List Statement). FindsLabels ss labels) c.as_slice.ensures.value c.in_ok-labels.ensures.ok in
    let there = subst (λ (ss : List Statement). All (Contains (names_of labels)) (destinations_of ss)) c.as_slice-2.ensures.value
    c.in_ok-check_destinations.ensures.ok in
    let bytes = subst (λ (ss : List Statement). AreBytes labels 0 ss c.in_ok-bytes.bytes) c.as_slice-3.ensures.value c.in_ok-bytes.ensures.ok in
    text_assembled c.args.text.now statements (record { bytes = c.in_ok-bytes.bytes; labels = labels }) c.in_ok-statements.ensures.ok found there bytes

pub write_code-requires-clause-usable : goal.write_code-requires-clause-usable
write_code-requires-clause-usable c = rw c.as_slice-3.ensures.value c.in_ok-statements.ensures.ok.usable

pub check_destinations-requires : goal.check_destinations-requires
check_destinations-requires c = rw c.as_slice-2.ensures.value c.in_ok-statements.ensures.ok.usable

pub write_code-requires-clause-fits : goal.write_code-requires-clause-fits
write_code-requires-clause-fits c = rw c.as_slice-3.ensures.value c.in_ok-statements.ensures.ok.fits

pub returns-in_err-check_destinations-clause-err : goal.returns-in_err-check_destinations-clause-err
returns-in_err-check_destinations-clause-err c =
    let statements = c.in_ok-statements.statements.items in
    let labels = c.in_ok-labels.labels in
    let found = subst (λ (ss : List Statement). FindsLabels ss labels) c.as_slice.ensures.value c.in_ok-labels.ensures.ok in
    let fault = subst (λ (ss : List Statement). IsDestinationFault (destinations_of ss) (names_of labels) c.in_err-check_destinations.field-0.0)
    c.as_slice-2.ensures.value c.in_err-check_destinations.ensures.err in
    let p = err_from_is_err_and c.from_residual-in_err-check_destinations.result c.from_residual-in_err-check_destinations.ensures.1 in
    rw (p.1, p.2) (text_destination_fault c.args.text.now statements labels c.in_err-check_destinations.field-0.0 c.in_ok-statements.ensures.ok found fault)

pub find_labels-requires-clause-usable : goal.find_labels-requires-clause-usable
find_labels-requires-clause-usable c = rw c.as_slice.ensures.value c.in_ok-statements.ensures.ok.usable

pub find_labels-requires-clause-fits : goal.find_labels-requires-clause-fits
find_labels-requires-clause-fits c = rw c.as_slice.ensures.value c.in_ok-statements.ensures.ok.fits

pub same-labels : goal.same-labels
same-labels c = grind (arith, common_steps)
