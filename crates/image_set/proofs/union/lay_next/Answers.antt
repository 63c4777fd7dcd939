-- `lay_next`: its clauses `ok` and `refused`, and that no number overflows.
use Rattle.std.proofs.Common.{◌-◌, ◌^◌, take, sym, subst, arith}
use Rattle.std.proofs.lemmas.Result.{err_from_is_err_and}
use Rattle.std.proofs.lemmas.Grind.{common_steps}
use Rattle.byte_map.proofs.Runs.{few_runs}
use Rattle.image_set.specs.Union.{IsUnionFault}
use Rattle.image_set.proofs.UnionLemmas.{union_swap, old_fault, new_fault, united_old, united_new}
use Rattle.image_set.proofs.union.lay_next.Goals as goal

pub overflow_add-result : goal.overflow_add-result
overflow_add-result c =
    omega (arith, c.comes_first.ensures.old c.if-comes_first.true, few_runs 0 (2 ^ 32) c.args.image.now c.requires.maximal.0)

pub returns-in-Ok-clause-ok : goal.returns-in-Ok-clause-ok
returns-in-Ok-clause-ok c =
    united_old c.args.image.now c.args.other.now c.args.index c.args.old c.args.union.now c.lay_run.new.union c.requires.maximal.0
    (c.comes_first.ensures.old c.if-comes_first.true) c.requires.united c.in-Ok.ensures.ok

pub returns-in-Err-clause-refused : goal.returns-in-Err-clause-refused
returns-in-Err-clause-refused c =
    let image = c.args.image.now in
    let other = c.args.other.now in
    subst (IsUnionFault image other) (sym c.swapped.ensures)
    (old_fault image other c.args.old (c.args.index - c.args.old) c.args.union.now c.in-Err.fault c.requires.maximal.0 c.requires.maximal.1
    (c.comes_first.ensures.old c.if-comes_first.true) c.requires.united.union_is c.in-Err.ensures.refused)

pub returns-in_err-lay_run-clause-refused : goal.returns-in_err-lay_run-clause-refused
returns-in_err-lay_run-clause-refused c =
    let image = c.args.image.now in
    let other = c.args.other.now in
    let new = c.args.index - c.args.old in
    let p = err_from_is_err_and c.from_residual.result c.from_residual.ensures.1 in
    rw (p.1, p.2) (new_fault other image new c.args.old c.args.union.now c.in_err-lay_run.field-0.0 c.requires.maximal.1 c.requires.maximal.0
    (c.comes_first.ensures.new c.if-comes_first.false) (union_swap (take c.args.old image) (take new other) c.args.union.now c.requires.united.union_is)
    c.in_err-lay_run.ensures.refused)

pub returns-in_ok-lay_run-clause-ok : goal.returns-in_ok-lay_run-clause-ok
returns-in_ok-lay_run-clause-ok c =
    united_new c.args.image.now c.args.other.now c.args.index c.args.old c.args.union.now c.lay_run-else-comes_first.new.union c.requires.maximal.1
    (c.comes_first.ensures.new c.if-comes_first.false) c.requires.united c.in_ok-lay_run.ensures.ok

pub lay_run-requires : goal.lay_run-requires
lay_run-requires c = grind (arith, common_steps)

pub lay_run-requires-else-comes_first : goal.lay_run-requires-else-comes_first
lay_run-requires-else-comes_first c = grind (arith, common_steps)
