-- `first_difference`: its clause `ok`, and that its loop keeps its invariant.
use Rattle.std.proofs.lemmas.Grind.{common_steps}
use Rattle.std.proofs.Common.{arith, refl, sym, ◌∙◌}
use Rattle.readback.proofs.ReadbackLemmas.{SoFar-then, SoFar-differs, only_reads_cells_then}
use Rattle.readback.proofs.compare.first_difference.Goals as goal

pub loop-done-preserved : goal.loop-done-preserved
loop-done-preserved g c = SoFar-then _ _ _ _ _ _ _ _ c.loop-done.invariant (omega arith) (omega arith)
    _ _ c.in_ok-found.ensures.ok (sym c.is_some.ensures ∙ c.if-is_some.false) c.in_ok-found.ensures.bench (c.in_ok-found.ensures.cause.on_ok refl)

pub returns-then-is_some-clause-ok : goal.returns-then-is_some-clause-ok
returns-then-is_some-clause-ok g c = SoFar-differs _ _ _ _ _ _ c.min-size.result _ c.loop-done.invariant (omega arith) (omega arith)
    _ c.in_ok-found.ensures.ok (sym c.is_some.ensures ∙ c.if-is_some.true)

pub returns-then-is_some-clause-cause : goal.returns-then-is_some-clause-cause
returns-then-is_some-clause-cause g c = grind (arith, common_steps)

pub returns-then-is_some-clause-bench : goal.returns-then-is_some-clause-bench
returns-then-is_some-clause-bench g c = only_reads_cells_then c.loop-done.invariant.bench c.in_ok-found.ensures.bench

pub loop-done-init : goal.loop-done-init
loop-done-init g c = grind (arith, common_steps)

pub difference_in-requires-clause-fits : goal.difference_in-requires-clause-fits
difference_in-requires-clause-fits g c = grind (arith, common_steps)

pub returns-clause-cause : goal.returns-clause-cause
returns-clause-cause g c = grind (arith, common_steps)

pub slice_bounds-difference_in-end-in-loop-done-2 : goal.slice_bounds-difference_in-end-in-loop-done-2
slice_bounds-difference_in-end-in-loop-done-2 g c = grind (arith, common_steps)

pub returns-clause-ok : goal.returns-clause-ok
returns-clause-ok g c = grind (arith, common_steps)

pub overflow_add-done-in-loop-done : goal.overflow_add-done-in-loop-done
overflow_add-done-in-loop-done g c = grind (arith, common_steps)

pub loop-done-smaller : goal.loop-done-smaller
loop-done-smaller g c = grind (arith, common_steps)

pub returns-in_err-found-clause-bench : goal.returns-in_err-found-clause-bench
returns-in_err-found-clause-bench g c = only_reads_cells_then c.loop-done.invariant.bench c.in_err-found.ensures.bench
