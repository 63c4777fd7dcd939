-- `run`: its contract, `IsShown`, and what `new` and `demo_run` require.
use Rattle.std.proofs.Common.{◌≡◌, ◌∙◌, refl, ap, arith, ℕ, List, [], length}
use Rattle.bench_model.specs.Shown.{made_bench}
use Rattle.demo_job.specs.Demo.{Shows}
use Rattle.demo_job.specs.Command.{IsShown}
use Rattle.demo_job.proofs.MadeLemmas.{length-cells}
use Rattle.demo_job.proofs.ShowLemmas.{fresh_of, if_ok}
use Rattle.demo_job.proofs.command.run.Goals as goal

pub new-requires : goal.new-requires
new-requires c =
    let long : length c.deref.result.now ≡ 65536 = ap (λ (l : List ℕ). length l) (c.deref.ensures.value ∙ c.in_ok-cells.ensures) ∙ length-cells c.args.seed in
    omega (arith, long)

pub demo_run-requires : goal.demo_run-requires
demo_run-requires c = fresh_of c.args.seed c.in_ok-bench.bench c.in_ok-bench.ensures.made (c.deref.ensures.value ∙ c.in_ok-cells.ensures) refl
    c.in_ok-bench.ensures.rest

pub returns : goal.returns
returns c =
    let cells = c.deref.ensures.value ∙ c.in_ok-cells.ensures in
    let made = c.in_ok-bench.ensures.made ∙ ap (λ (l : List ℕ). made_bench l [] 4194304 400000 [] [] []) cells in
    let fresh = fresh_of c.args.seed c.in_ok-bench.bench c.in_ok-bench.ensures.made (c.deref.ensures.value ∙ c.in_ok-cells.ensures) refl
    c.in_ok-bench.ensures.rest in
    if_ok (Shows c.args.seed c.in_ok-bench.bench) (IsShown c.args.seed) c.demo_run.result
    (λ demo shows. record { fresh = c.in_ok-bench.bench; is_made = made; is_fresh = fresh; shows = shows }) c.demo_run.ensures
