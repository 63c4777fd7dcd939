-- `print_plans`: its contract, `PlansCells`, and what `make_parts` and `print_from` require.
use Rattle.std.proofs.lemmas.Grind.{common_steps}
use Rattle.std.proofs.Common.{◌<◌, ◌^◌, List, map, sym, subst, arith}
use Rattle.std.proofs.lemmas.Result.{err_from_is_err_and}
use Rattle.flm_descriptor.specs.declared.algorithm.Algorithm.{Algorithm}
use Rattle.flm_descriptor.specs.Shown.{shown}
use Rattle.command_files.specs.Steps.{aim_of}
use Rattle.flm_cli.specs.Plan.{text_of}
use Rattle.flm_cli.specs.Steps.{cells_on}
use Rattle.flm_cli.proofs.PlanLemmas.{device_cells, plans_nothing}
use Rattle.flm_cli.proofs.plan.print_plans.Goals as goal

pub make_parts-requires : goal.make_parts-requires
make_parts-requires g c =
    let wanted = c.args.wanted.now in
    subst (λ (l : List Algorithm). cells_on (map shown l) < 2 ^ 32) (sym c.deref.ensures.value)
    (omega (arith, device_cells wanted.board.regions (map shown wanted.algorithms.items) c.requires.devices, wanted.board.few_cells))

pub returns-in_err-parts : goal.returns-in_err-parts
returns-in_err-parts g c =
    let p = err_from_is_err_and c.from_residual.result c.from_residual.ensures.1 in
    rw (p.1, p.2) (plans_nothing g.B.Bench.tells g.O.Sink.tells (g.B.Bench.state c.args.bench.now) (g.O.Sink.state c.args.out.now)
    (text_of (aim_of c.args.wanted.now)))

pub print_from-requires-clause-parts : goal.print_from-requires-clause-parts
print_from-requires-clause-parts g c = grind (arith, common_steps)
