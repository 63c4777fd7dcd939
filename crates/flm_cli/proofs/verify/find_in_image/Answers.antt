-- `find_in_image`: its clauses `looks` and `found`, and what `find_in_regions` requires.
use Rattle.std.proofs.Common.{arith}
use Rattle.std.proofs.lemmas.Grind.{common_steps}
use Rattle.std.proofs.lemmas.Result.{err_from_is_err_and}
use Rattle.device_dump.proofs.LooksLemmas.{looks_dropped, looks_by}
use Rattle.flm_cli.proofs.LooksLemmas.{found_in_image}
use Rattle.flm_cli.proofs.verify.find_in_image.Goals as goal

pub returns-in_err-cells_drop-clause-looks : goal.returns-in_err-cells_drop-clause-looks
returns-in_err-cells_drop-clause-looks g c =
    let p = err_from_is_err_and c.from_residual.result c.from_residual.ensures.1 in
    rw (p.1, p.2) (looks_dropped c.in_err-cells_drop.field-0.0 c.in_err-cells_drop.ensures.does)

pub returns-clause-found : goal.returns-clause-found
returns-clause-found g c =
    found_in_image g.B.Bench.tells (g.B.Bench.state c.args.bench.now) (g.B.Bench.state c.cells_drop.new.self) (g.B.Bench.state c.find_in_regions.new.bench)
    c.find_in_regions.ensures.bench c.args.board.now.regions c.args.image.now c.find_in_regions.result c.find_in_regions.ensures.ok

pub returns-clause-looks : goal.returns-clause-looks
returns-clause-looks g c = looks_by _ c.in_ok-cells_drop.ensures.does c.find_in_regions.ensures.bench c.find_in_regions.result c.find_in_regions.ensures.cause

pub find_in_regions-requires-clause-room : goal.find_in_regions-requires-clause-room
find_in_regions-requires-clause-room g c = grind (arith, common_steps)
