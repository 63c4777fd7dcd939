-- `lay_window`: its clause `counted`.
use Rattle.std.proofs.Common.{refl, arith}
use Rattle.std.proofs.lemmas.Grind.{common_steps}
use Rattle.bench_model.proofs.CountLemmas.{none_counted}
use Rattle.job_file.proofs.image.lay_window.Goals as goal

pub returns-clause-counted : goal.returns-clause-counted
returns-clause-counted g c = none_counted _ _ (c.in_ok-file_read.ensures.does.cause.on_ok refl)

pub add_piece-requires-clause-behind : goal.add_piece-requires-clause-behind
add_piece-requires-clause-behind g c = grind (arith, common_steps)
