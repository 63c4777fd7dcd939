-- `set_scene`: its contract, `IsScene`, and what `goal` requires.
use Rattle.std.proofs.Common.{◌≡◌, ◌∙◌, refl, ap, arith, ℕ, List, length}
use Rattle.byte_map.specs.Image.{Run, over}
use Rattle.demo_job.specs.Made.{base, image_of}
use Rattle.demo_job.proofs.MadeLemmas.{length-cells}
use Rattle.demo_job.proofs.scene.set_scene.Goals as goal

pub goal-requires : goal.goal-requires
goal-requires c =
    let long : length c.in_ok-made.made.cells.items ≡ 65536 = ap (λ (l : List ℕ). length l) c.in_ok-made.ensures.cells ∙ length-cells c.args.seed in
    omega (arith, long)

pub returns : goal.returns
returns c = record {
  cells = c.in_ok-made.ensures.cells;
  image = c.in_ok-made.ensures.image;
  calls = c.in_ok-made.ensures.calls;
  fixture = c.in_ok-fixture.ensures;
  suits = c.if-not-fits.ensures.suits refl;
  goal = c.in_ok-goal.ensures
      ∙ ap (λ (i : List Run). over i base c.in_ok-made.made.cells.items) c.in_ok-made.ensures.image
      ∙ ap (λ (l : List ℕ). over (image_of c.args.seed) base l) c.in_ok-made.ensures.cells;
  base = c.if-not-fits.ensures.base refl;
  size = c.if-not-fits.ensures.size refl ∙ ap (λ (l : List ℕ). length l) c.in_ok-made.ensures.cells ∙ length-cells c.args.seed;
}
