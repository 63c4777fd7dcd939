-- `put_apart`: its clause `ok`, and what `insert` requires.
use Rattle.std.proofs.Common.{◌^◌, arith, rules}
use Rattle.byte_map.proofs.Runs.{few_runs}
use Rattle.byte_map.proofs.Grown.{lays_apart}
use Rattle.byte_map.proofs.join.put_apart.Goals as goal

pub insert-requires-clause-few : goal.insert-requires-clause-few
insert-requires-clause-few c = omega (arith, few_runs 0 (2 ^ 32) c.args.runs.now c.requires.maximal)

pub returns-clause-ok : goal.returns-clause-ok
returns-clause-ok c = lays_apart _ c.args.runs.now c.insert.new.self c.args.first c.requires (search rules)
