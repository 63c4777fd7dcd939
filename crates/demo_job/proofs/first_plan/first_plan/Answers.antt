-- `first_plan`: its contract, `IsCounted`.
use Rattle.std.proofs.Common.{◌∙◌, ap}
use Rattle.algo_calls.specs.Duties.{device_of}
use Rattle.flm_descriptor.specs.Shown as flm
use Rattle.page_geometry.specs.Geometry.{Geometry}
use Rattle.erase_planner.specs.Plans.{Chosen}
use Rattle.demo_job.specs.Plan.{erased, programmed}
use Rattle.demo_job.proofs.first_plan.first_plan.Goals as goal

pub returns : goal.returns
returns c =
    let l = device_of (flm.shown c.args.scene.now.fixture.algorithm) in
    record {
      sectors = c.sectors.ensures ∙ ap (λ (g : Geometry). erased g c.in_ok-plan.plan.made) c.in_ok-geometry.ensures.geometry
          ∙ ap (erased l) c.in_ok-plan.ensures;
      pages = c.pages.ensures ∙ ap (λ (g : Geometry). programmed g c.in_ok-plan.plan.made) c.in_ok-geometry.ensures.geometry
          ∙ ap (programmed l) c.in_ok-plan.ensures;
      cost = c.cost.ensures ∙ ap (λ (p : Chosen). p.cost) c.in_ok-plan.ensures;
    }
