-- `Subject::whole`: that it keeps its contract, and what its call asks for.
use Rattle.std.proofs.Common.{◌≡◌, ◌+◌, ℕ, ap, subst, arith}
use Rattle.flm_descriptor.specs.Shape.{range}
use Rattle.page_geometry.specs.Geometry.{Geometry}
use Rattle.duty_trials.specs.Subjects.{site_in, IsSpan}
use Rattle.duty_trials.proofs.subject.Subject.whole.Goals as goal

pub span-requires : goal.span-requires
span-requires c = record {
  some = omega (arith, c.size.ensures.size, ap (λ (g : Geometry). g.size) c.args.self.now.shaped, c.args.self.now.algorithm.now.lawful.size_some);
  within = omega (arith, c.size.ensures.size, ap (λ (g : Geometry). g.size) c.args.self.now.shaped);
}

pub returns : goal.returns
returns c =
    let t = c.args.self.now in
    let all : 0 + c.size.result ≡ (site_in t).layout.size = omega (arith, c.size.ensures.size, ap (λ (g : Geometry). g.size) t.shaped) in
    subst (λ (n : ℕ). IsSpan t (range 0 n) c.span.result) all c.span.ensures
