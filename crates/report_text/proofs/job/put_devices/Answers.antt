-- `put_devices`: its contract, `Puts`, and that its loop keeps its invariant.
use Rattle.std.proofs.Common.{ap, arith}
use Rattle.std.proofs.lemmas.Grind.{common_steps}
use Rattle.flm_descriptor.specs.declared.algorithm.Algorithm.{Algorithm}
use Rattle.outside_io.proofs.PutTexts.{puts_as, puts_nothing, puts_more, puts_breaks, puts_failed}
use Rattle.report_text.specs.Job.{device_line}
use Rattle.report_text.proofs.job.put_devices.Goals as goal

pub loop-algorithm-init : goal.loop-algorithm-init
loop-algorithm-init g c = puts_nothing _ _ _

pub loop-algorithm-preserved : goal.loop-algorithm-preserved
loop-algorithm-preserved g c =
    let a = c.algorithm-item.result in
    puts_more (λ (a : Algorithm). device_line a.device) _ _ a c.loop-algorithm-test.true c.loop-algorithm.invariant
    (puts_as (ap (λ (a : Algorithm). device_line a.device) c.algorithm-item.is) c.in_ok-put_device.ensures)

pub returns-in_err-put_device : goal.returns-in_err-put_device
returns-in_err-put_device g c =
    let a = c.algorithm-item.result in
    puts_failed _ c.from_residual.ensures.0
    (puts_breaks (λ (a : Algorithm). device_line a.device) _ _ a c.loop-algorithm-test.true c.loop-algorithm.invariant
    (puts_as (ap (λ (a : Algorithm). device_line a.device) c.algorithm-item.is) c.in_err-put_device.ensures))

pub returns : goal.returns
returns g c = grind (arith, common_steps)
