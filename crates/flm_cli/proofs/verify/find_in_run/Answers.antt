-- `find_in_run`: its clauses `ok`, `bench` and `cause`, and that the address of a difference fits.
use Rattle.std.proofs.Common.{rules, refl, arith, None}
use Rattle.std.proofs.lemmas.Grind.{common_steps}
use Rattle.readback.proofs.ReadbackLemmas.{only_reads_cells_here}
use Rattle.flm_cli.proofs.DifferenceLemmas.{uncaused, clip_none, clip_same, clip_differs}
use Rattle.flm_cli.proofs.verify.find_in_run.Goals as goal

pub returns-then-end-from-clause-ok : goal.returns-then-end-from-clause-ok
returns-then-end-from-clause-ok g c =
    let region = c.args.region.now in
    clip_none g.B.Bench.tells (g.B.Bench.state c.args.bench.now).cells c.args.start region.base region.size c.args.at c.args.bytes.now c.max-from.result
    c.min-end.result
    (search rules) (search rules) (omega arith)

pub returns-in-None-clause-ok : goal.returns-in-None-clause-ok
returns-in-None-clause-ok g c =
    let region = c.args.region.now in
    clip_same g.B.Bench.tells (g.B.Bench.state c.args.bench.now).cells c.args.start region.base region.size c.args.at c.args.bytes.now c.max-from.result
    c.min-end.result
    (search rules) (search rules) (omega arith) _ refl (search rules)

pub returns-in-Some-clause-ok : goal.returns-in-Some-clause-ok
returns-in-Some-clause-ok g c =
    let region = c.args.region.now in
    clip_differs g.B.Bench.tells (g.B.Bench.state c.args.bench.now).cells c.args.start region.base region.size c.args.at c.args.bytes.now c.max-from.result
    c.min-end.result
    (search rules) (search rules) (omega arith) _ refl _ _ (search rules) refl refl refl

pub returns-then-end-from-clause-bench : goal.returns-then-end-from-clause-bench
returns-then-end-from-clause-bench g c = only_reads_cells_here g.B.Bench.tells (g.B.Bench.state c.args.bench.now)

pub returns-then-end-from-clause-cause : goal.returns-then-end-from-clause-cause
returns-then-end-from-clause-cause g c = uncaused None _ _ refl

pub overflow_add-result : goal.overflow_add-result
overflow_add-result g c = grind (arith, common_steps)

pub overflow_sub-result : goal.overflow_sub-result
overflow_sub-result g c = grind (arith, common_steps)

pub returns-in-Some-clause-bench : goal.returns-in-Some-clause-bench
returns-in-Some-clause-bench g c = c.in_ok-found.ensures.bench

pub returns-in-None-clause-cause : goal.returns-in-None-clause-cause
returns-in-None-clause-cause g c = uncaused None _ _ (c.in_ok-found.ensures.cause.on_ok refl)

pub returns-in-Some-clause-cause : goal.returns-in-Some-clause-cause
returns-in-Some-clause-cause g c = uncaused _ _ _ (c.in_ok-found.ensures.cause.on_ok refl)
