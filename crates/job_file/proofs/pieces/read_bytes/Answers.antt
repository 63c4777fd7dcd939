-- `read_bytes`: its clause `counted`.
use Rattle.std.proofs.Common.{refl, arith}
use Rattle.std.proofs.lemmas.Grind.{common_steps}
use Rattle.bench_model.proofs.CountLemmas.{none_counted}
use Rattle.job_file.proofs.pieces.read_bytes.Goals as goal

pub returns-clause-counted : goal.returns-clause-counted
returns-clause-counted g c = none_counted _ _ (c.in_ok-fill.ensures.cause.on_ok refl)

pub returns-clause-ok : goal.returns-clause-ok
returns-clause-ok g c = grind (arith, common_steps)

pub fill-requires-clause-told : goal.fill-requires-clause-told
fill-requires-clause-told g c = grind (arith, common_steps)
