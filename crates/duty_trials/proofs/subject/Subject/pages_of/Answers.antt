-- `Subject::pages_of`: that it keeps its contract, and what its call asks for.
use Rattle.std.proofs.Common.{◌<◌, length, subst, sym}
use Rattle.page_geometry.specs.Geometry.{Geometry, ArePagesOf}
use Rattle.duty_trials.proofs.subject.Subject.pages_of.Goals as goal

pub pages_of-requires : goal.pages_of-requires
pages_of-requires c = subst (λ (g : Geometry). c.args.sector < length g.sectors) (sym c.args.self.now.shaped) c.requires

pub returns : goal.returns
returns c = subst (λ (g : Geometry). ArePagesOf g c.args.sector c.pages_of.result.0 c.pages_of.result.1) c.args.self.now.shaped c.pages_of.ensures
