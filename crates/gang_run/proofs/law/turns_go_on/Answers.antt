-- `turns_go_on`: its contract, `Playing`.
use Rattle.gang_run.proofs.GangLemmas.{playing_on}
use Rattle.gang_run.proofs.law.turns_go_on.Goals as goal

pub returns : goal.returns
returns g c = λ old mid new benches between after target was turn gang ready. playing_on g.B.Bench old mid new benches between after target
    (λ bench x told. g.met.B.Bench.as_told bench x told) was turn gang ready
