-- `campaigns_recover`: its contract, `AreRecovered`.
use Rattle.promise.proofs.RecoveryLemmas.{are_recovered}
use Rattle.promise.proofs.law.campaigns_recover.Goals as goal

pub returns : goal.returns
returns g c = λ asked end is keep complete. are_recovered asked g.C.Campaign.first end g.C.Campaign.later is keep complete
