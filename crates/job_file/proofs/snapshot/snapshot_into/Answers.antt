-- `snapshot_into`: its clause `ok`, and what `file_read` requires.
use Rattle.std.proofs.Common.{length, arith}
use Rattle.std.proofs.lemmas.Grind.{common_steps}
use Rattle.job_file.proofs.TextLemmas.{some_cells, snapshot_within}
use Rattle.job_file.proofs.snapshot.snapshot_into.Goals as goal

pub file_read-requires : goal.file_read-requires
file_read-requires g c = λ told.
    let job = c.args.job.now in
    let within = snapshot_within job (g.B.Bench.state c.args.bench.now).file c.args.at (length c.args.out.now) (c.requires.stands told)
    (some_cells job) c.requires.range in
    omega (arith, within)

pub returns-clause-ok : goal.returns-clause-ok
returns-clause-ok g c = grind (arith, common_steps)
