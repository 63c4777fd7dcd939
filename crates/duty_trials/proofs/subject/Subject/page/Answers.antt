-- `Subject::page`: that it keeps its contract, and what its calls ask for.
use Rattle.std.proofs.Common.{◌<◌, length, subst, sym}
use Rattle.flm_descriptor.specs.Shape.{range_at}
use Rattle.page_geometry.specs.Geometry.{Geometry, IsAt}
use Rattle.duty_trials.specs.Subjects.{site_in}
use Rattle.duty_trials.proofs.SubjectLemmas.{layout_good, some_in, span_as}
use Rattle.duty_trials.proofs.subject.Subject.page.Goals as goal

pub page-at-requires : goal.page-at-requires
page-at-requires c = subst (λ (g : Geometry). c.args.number < length g.pages) (sym c.args.self.now.shaped) c.requires

pub span-requires : goal.span-requires
span-requires c =
    let t = c.args.self.now in
    let is : IsAt (range_at (site_in t).layout.pages c.args.number) c.page-at.result.0 c.page-at.result.1 =
    subst (λ (g : Geometry). IsAt (range_at g.pages c.args.number) c.page-at.result.0 c.page-at.result.1) t.shaped c.page-at.ensures.range in
    let inside = some_in (site_in t).layout.size (site_in t).layout.pages c.args.number c.page-at.result.0 c.page-at.result.1
    (layout_good t).pages_part c.requires is in
    record { some = inside.0; within = inside.1 }

pub returns : goal.returns
returns c =
    let t = c.args.self.now in
    let is : IsAt (range_at (site_in t).layout.pages c.args.number) c.page-at.result.0 c.page-at.result.1 =
    subst (λ (g : Geometry). IsAt (range_at g.pages c.args.number) c.page-at.result.0 c.page-at.result.1) t.shaped c.page-at.ensures.range in
    span_as t (range_at (site_in t).layout.pages c.args.number) c.page-at.result.0 c.page-at.result.1 c.span.result is c.span.ensures
