-- `cover`: its clause `ok`.
use Rattle.std.proofs.Common.{arith}
use Rattle.std.proofs.lemmas.Grind.{common_steps}
use Rattle.byte_map.proofs.Grown.{lays_covered}
use Rattle.byte_map.proofs.join.cover.Goals as goal

pub returns-clause-ok : goal.returns-clause-ok
returns-clause-ok c =
    lays_covered _ c.args.runs.now c.remove.new.self c.args.first c.args.last c.requires.can c.requires.some c.requires.begins c.requires.ends
    (rw (← c.in_ok-run.ensures, ← c.replace.ensures) c.remove.ensures)

pub remove-requires-clause-within : goal.remove-requires-clause-within
remove-requires-clause-within c = grind (arith, common_steps)
