-- `RegionPlan::new`: its clause `part`.
use Rattle.std.proofs.Common.{refl, ap, arith}
use Rattle.page_geometry.specs.Geometry.{Geometry}
use Rattle.flash_session.proofs.region_plan.RegionPlan.new.Goals as goal

pub returns-clause-part : goal.returns-clause-part
returns-clause-part c =
    let a = c.args.algorithm.now in
    let e = c.in_ok-geometry.ensures in
    record {
      layout = e.geometry;
      lawful = e.lawful;
      fit = e.fit;
      room = c.in_ok-reserve.ensures.covers;
      base = refl;
      end = omega (arith, a.in_memory, ap (λ (l : Geometry). l.size) e.geometry);
      empty = c.empty_of-empty.ensures.byte;
    }
