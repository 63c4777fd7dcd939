-- A halfword that is read directly is one of the RAM.
use Rattle.std.proofs.Common.{refl}
use Rattle.target_core.proofs.LineLemmas.{loads}
use Rattle.target_core.proofs.StepLemmas.{same_here}
use Rattle.target_core.proofs.line.LineBus.peek16.Goals as goal

pub returns-clause-acts : goal.returns-clause-acts
returns-clause-acts g c =
    loads {G = g.B.Bench} (λ b x told. g.met.B.Bench.as_told b x told) c.args.self.now c.args.self.now 2 c.args.at c.in_ok-offset.offset c.load16_from.result
    (same_here c.args.self.now) refl refl refl c.in_ok-offset.ensures.value c.load16_from.ensures.value
