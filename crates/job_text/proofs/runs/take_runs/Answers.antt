-- `take_runs`: its clauses `gives` and `taken`, and that its loop keeps its invariant.
use Rattle.std.proofs.Common.{◌+◌, length, arith}
use Rattle.std.proofs.lemmas.Result.{err_from_is_err_and}
use Rattle.std.proofs.lemmas.Grind.{common_steps}
use Rattle.job_text.specs.Reading.{runs_at}
use Rattle.job_text.specs.Runs.{run_of}
use Rattle.job_text.proofs.CoverLemmas.{under_most}
use Rattle.job_text.proofs.LoopLemmas.{ends, is_done, more}
use Rattle.job_text.proofs.runs.take_runs.Goals as goal

pub returns-in_err-at-clause-gives : goal.returns-in_err-at-clause-gives
returns-in_err-at-clause-gives c =
    let p = err_from_is_err_and c.from_residual.result c.from_residual.ensures.1 in
    rw (p.1, p.2) (ends c.args.whole c.args.regions.now c.loop.from c.in_err-at.field-0.0 c.loop.image c.args.count c.loop.counter c.loop.rest.now
    (runs_at c.args.whole c.args.regions.now c.args.count 0 c.args.bytes.now) c.loop-test.true c.in_err-at.ensures.gives c.loop.invariant.said)

pub loop-preserved : goal.loop-preserved
loop-preserved c =
    more c.args.whole c.args.regions.now c.loop.from c.args.count c.loop.image c.loop.rest.now c.args.bytes.now c.loop.counter
    (run_of c.in_ok-at.at c.in_ok-at.text.now) c.in_ok-at.after.now
    c.add_run.new.image (c.from.result + length c.in_ok-at.text.now + 1) c.loop.invariant c.loop-test.true c.in_ok-at.ensures.gives c.in_ok-at.ensures.shorter
    c.in_ok-at.ensures.taken c.in_ok-at.ensures.low c.in_ok-at.ensures.some
    c.in_ok-at.ensures.inside c.in_ok-at.ensures.covered c.in_ok-add_run.ensures (omega arith)

pub returns-clause-gives : goal.returns-clause-gives
returns-clause-gives c = is_done c.args.whole c.args.regions.now c.loop.from c.loop.image c.args.count c.loop.counter c.loop.rest.now
    (runs_at c.args.whole c.args.regions.now c.args.count 0 c.args.bytes.now) c.loop-test.false c.loop.invariant.said

pub returns-clause-taken : goal.returns-clause-taken
returns-clause-taken c = omega (arith, c.loop.invariant.used, under_most c.args.regions.now c.loop.from)

pub add_run-requires-clause-fits : goal.add_run-requires-clause-fits
add_run-requires-clause-fits c = grind (arith, common_steps)

pub add_run-requires-clause-some : goal.add_run-requires-clause-some
add_run-requires-clause-some c = grind (arith, common_steps)

pub overflow_add-from : goal.overflow_add-from
overflow_add-from c = grind (arith, common_steps)

pub overflow_add-from-in-loop : goal.overflow_add-from-in-loop
overflow_add-from-in-loop c = grind (arith, common_steps)

pub loop-init : goal.loop-init
loop-init c = grind (arith, common_steps)

pub add_run-requires-clause-behind : goal.add_run-requires-clause-behind
add_run-requires-clause-behind c = grind (arith, common_steps)
