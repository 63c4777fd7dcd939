-- `choose`: that it keeps its contract, and what `plan_into` requires.
use Rattle.std.proofs.Common.{◌≡◌, ◌∙◌, sym, ap, ℕ, List, length}
use Rattle.page_geometry.specs.Geometry.{Geometry}
use Rattle.demo_job.specs.Made.{cells_of}
use Rattle.demo_job.specs.Run.{work_of}
use Rattle.demo_job.specs.Scene.{fixture_of}
use Rattle.demo_job.proofs.MadeLemmas.{length-cells}
use Rattle.demo_job.proofs.PlanLemmas.{chosen_as, length-laid, laid_over, all_part}
use Rattle.demo_job.proofs.first_plan.choose.Goals as goal

pub plan_into-requires : goal.plan_into-requires
plan_into-requires c =
    let seed = c.args.seed in
    let scene = c.requires.scene in
    let size : c.args.geometry.now.size ≡ 65536 = ap (λ (l : Geometry). l.size) c.requires.geometry ∙ scene.size in
    record {
      covers = c.in_ok-reserve.ensures.covers;
      old = ap (λ (l : List ℕ). length l) (c.deref.ensures.value ∙ scene.cells) ∙ length-cells seed ∙ sym size;
      want = ap (λ (l : List ℕ). length l) (c.deref-2.ensures.value ∙ scene.goal) ∙ length-laid seed ∙ sym size;
    }

pub returns : goal.returns
returns c =
    let seed = c.args.seed in
    let scene = c.requires.scene in
    let t = fixture_of c.args.scene.now.fixture in
    let goal_is = laid_over seed t scene.suits.fit scene.base scene.size in
    c.plan_into.ensures.least.chosen
    ∙ chosen_as c.args.scene.now.fixture.board.weights c.args.scene.now.fixture.algorithm.device.empty c.requires.geometry c.is_some.ensures
    (c.deref.ensures.value ∙ scene.cells ∙ sym (all_part t.board t.algorithm (cells_of seed) scene.size (length-cells seed)))
    (c.deref-2.ensures.value ∙ scene.goal ∙ sym goal_is
    ∙ sym (all_part t.board t.algorithm (work_of seed t).goal scene.size (ap (λ (l : List ℕ). length l) goal_is ∙ length-laid seed)))
