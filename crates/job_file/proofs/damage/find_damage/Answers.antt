-- `find_damage`: its clause `ok`, and what `compare_hashes` requires.
use Rattle.std.proofs.Common.{◌∙◌, drop, refl}
use Rattle.bench_model.proofs.Moments.{only_reads_here}
use Rattle.job_file.proofs.HashLemmas.{first_intact, second_by}
use Rattle.job_file.proofs.CountLemmas.{none_caused}
use Rattle.job_file.proofs.damage.find_damage.Goals as goal

pub returns-in-First-clause-ok : goal.returns-in-First-clause-ok
returns-in-First-clause-ok g c = λ told. first_intact (drop 1 (g.B.Bench.state c.args.bench.now).file) (c.requires.format told ∙ c.in-First.is)

pub compare_hashes-requires-clause-second : goal.compare_hashes-requires-clause-second
compare_hashes-requires-clause-second g c = λ told. second_by (drop 1 (g.B.Bench.state c.args.bench.now).file) (c.requires.format told ∙ c.in-Second.is)

pub returns-in-First-clause-reads : goal.returns-in-First-clause-reads
returns-in-First-clause-reads g c = only_reads_here _ _

pub returns-in-First-clause-cause : goal.returns-in-First-clause-cause
returns-in-First-clause-cause g c = none_caused _ refl
