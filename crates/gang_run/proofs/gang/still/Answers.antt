-- `still`: its clause `more`.
use Rattle.std.proofs.Common.{refl}
use Rattle.gang_run.proofs.gang.still.Goals as goal

pub returns-in-More-clause-more : goal.returns-in-More-clause-more
returns-in-More-clause-more c = λ is. refl
