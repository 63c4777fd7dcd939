-- `tell`: its contract, `Prints`.
use Rattle.std.proofs.Common.{refl, inl, inr}
use Rattle.std.proofs.lemmas.Result.{err_from_is_err_and}
use Rattle.demo_job.proofs.command.tell.Goals as goal

pub returns-in_err-put_demo : goal.returns-in_err-put_demo
returns-in_err-put_demo g c =
    let puts = c.in_err-put_demo.ensures in
    let p = err_from_is_err_and c.from_residual.result c.from_residual.ensures.1 in
    rw (p.1, p.2) (inr (refl, (record { taken = puts.err; later = puts.cause.later; rose = puts.cause.on_fault refl })))

pub returns : goal.returns
returns g c = inl (c.end.ensures, (record { taken = c.in_ok-put_demo.ensures.ok; faults = c.in_ok-put_demo.ensures.cause.on_ok refl }))
