-- `cut_synced`: that it keeps its contract.
use Rattle.std.proofs.lemmas.Grind.{common_steps}
use Rattle.std.proofs.Common.{◌∙◌, sym, arith}
use Rattle.std.proofs.lemmas.Result.{on_ok_weaker}
use Rattle.bench_model.proofs.Moments.{leaves_then_nothing}
use Rattle.bench_model.specs.State.{file_half}
use Rattle.bench_model.specs.Calls.{Cut, Follows}
use Rattle.bench_model.proofs.synced.cut_synced.Goals as goal

pub returns-clause-ok : goal.returns-clause-ok
returns-clause-ok g c told =
    let same = c.file_sync.ensures.does.file told in
    on_ok_weaker c.file_sync.result
    (λ only. (same ∙ c.in_ok-file_cut.ensures.does.ok told, λ y at. only y at ∙ sym same))
    (c.file_sync.ensures.does.ok told)

pub returns-clause-moments : goal.returns-clause-moments
returns-clause-moments g c =
    let P = Follows (Cut c.args.len) (file_half (g.B.Bench.state c.args.bench.now)) in
    leaves_then_nothing P c.in_ok-file_cut.ensures.does.moments c.file_sync.ensures.does.moments

pub returns-clause-cells : goal.returns-clause-cells
returns-clause-cells g c = grind (arith, common_steps)

pub returns-clause-cause : goal.returns-clause-cause
returns-clause-cause g c = grind (arith, common_steps)
