-- `put_algorithms`: its contract, `Puts`, and that its loop keeps its invariant.
use Rattle.std.proofs.Common.{ap, arith}
use Rattle.std.proofs.lemmas.Grind.{common_steps}
use Rattle.flm_descriptor.specs.declared.algorithm.Algorithm.{Algorithm}
use Rattle.flm_descriptor.specs.Shown.{shown}
use Rattle.report_text.specs.Inspection.{inspection_text}
use Rattle.outside_io.proofs.PutTexts.{puts_as, puts_nothing, puts_more, puts_breaks, puts_failed}
use Rattle.job_parts.proofs.listing.put_algorithms.Goals as goal

pub loop-algorithm-init : goal.loop-algorithm-init
loop-algorithm-init g c = puts_nothing _ _ _

pub loop-algorithm-preserved : goal.loop-algorithm-preserved
loop-algorithm-preserved g c =
    let a = c.algorithm-item.result in
    puts_more (λ (a : Algorithm). inspection_text (shown a)) _ _ a c.loop-algorithm-test.true c.loop-algorithm.invariant
    (puts_as (ap (λ (a : Algorithm). inspection_text (shown a)) c.algorithm-item.is) c.in_ok-put_inspection.ensures)

pub returns-in_err-put_inspection : goal.returns-in_err-put_inspection
returns-in_err-put_inspection g c =
    let a = c.algorithm-item.result in
    puts_failed _ c.from_residual.ensures.0
    (puts_breaks (λ (a : Algorithm). inspection_text (shown a)) _ _ a c.loop-algorithm-test.true c.loop-algorithm.invariant
    (puts_as (ap (λ (a : Algorithm). inspection_text (shown a)) c.algorithm-item.is) c.in_err-put_inspection.ensures))

pub returns : goal.returns
returns g c = grind (arith, common_steps)
