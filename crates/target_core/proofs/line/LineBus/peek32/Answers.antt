-- A word that is read directly is one of the RAM or that of a register.
use Rattle.std.proofs.Common.{refl}
use Rattle.target_core.proofs.LineLemmas.{loads}
use Rattle.target_core.proofs.StepLemmas.{same_here}
use Rattle.target_core.proofs.line.LineBus.peek32.Goals as goal

pub returns-in-Some-clause-acts : goal.returns-in-Some-clause-acts
returns-in-Some-clause-acts g c =
    loads {G = g.B.Bench} (λ b x told. g.met.B.Bench.as_told b x told) c.args.self.now c.args.self.now 4 c.args.at c.in-Some.offset c.load32_from.result
    (same_here c.args.self.now) refl refl refl c.in-Some.ensures.value c.load32_from.ensures.value
