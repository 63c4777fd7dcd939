-- `find_in_cells`: its clauses `looks` and `found`, and what `first_difference` requires.
use Rattle.std.proofs.Common.{arith}
use Rattle.std.proofs.lemmas.Grind.{common_steps}
use Rattle.std.proofs.lemmas.Result.{err_from_is_err_and}
use Rattle.device_dump.proofs.LooksLemmas.{looks_dropped, looks_by}
use Rattle.flm_cli.proofs.LooksLemmas.{found_in_bytes}
use Rattle.flm_cli.proofs.compare.find_in_cells.Goals as goal

pub returns-in_err-cells_drop-clause-looks : goal.returns-in_err-cells_drop-clause-looks
returns-in_err-cells_drop-clause-looks g c =
    let p = err_from_is_err_and c.from_residual.result c.from_residual.ensures.1 in
    rw (p.1, p.2) (looks_dropped c.in_err-cells_drop.field-0.0 c.in_err-cells_drop.ensures.does)

pub returns-clause-found : goal.returns-clause-found
returns-clause-found g c = found_in_bytes g.B.Bench.tells (g.B.Bench.state c.args.bench.now) (g.B.Bench.state c.cells_drop.new.self)
    (g.B.Bench.state c.first_difference.new.bench) c.first_difference.ensures.bench c.args.bytes.now c.first_difference.result c.first_difference.ensures.ok

pub returns-clause-looks : goal.returns-clause-looks
returns-clause-looks g c = looks_by _ c.in_ok-cells_drop.ensures.does c.first_difference.ensures.bench c.first_difference.result
    c.first_difference.ensures.cause

pub first_difference-requires-clause-room : goal.first_difference-requires-clause-room
first_difference-requires-clause-room g c = grind (arith, common_steps)
