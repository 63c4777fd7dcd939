-- `demo`: its contract, `DemoSays`.
use Rattle.std.proofs.Common.{refl, inl, inr}
use Rattle.std.proofs.lemmas.Result.{err_from_is_err_and}
use Rattle.demo_job.proofs.command.demo.Goals as goal

pub returns-in_err-demo : goal.returns-in_err-demo
returns-in_err-demo g c =
    let p = err_from_is_err_and c.from_residual.result c.from_residual.ensures.1 in
    rw (p.1, p.2) (inl (record { answer_is = refl; prints = record { taken = refl; faults = refl } }))

pub returns : goal.returns
returns g c = inr (record { demo = c.in_ok-demo.demo; is_shown = c.in_ok-demo.ensures; prints = c.tell.ensures })
