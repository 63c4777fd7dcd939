-- `turns_begin`: its contract, `Playing`.
use Rattle.gang_run.proofs.GangLemmas.{playing_here}
use Rattle.gang_run.proofs.law.turns_begin.Goals as goal

pub returns : goal.returns
returns g c = λ h benches gang places ready. playing_here g.B.Bench h benches (λ bench x told. g.met.B.Bench.as_told bench x told) gang places ready
