-- `flash_gang`: its clause `promise` and those of `flmgang`. Each asks that the call which is made is the one that is answered, part by part.
use Rattle.std.proofs.Common.{arith, length}
use Rattle.promise.proofs.GangLemmas.{gang_keeps}
use Rattle.promise.proofs.TopLemmas.{gang_answered, gang_kept}
use Rattle.promise.proofs.top.flash_gang.Goals as goal

pub returns-clause-promise : goal.returns-clause-promise
returns-clause-promise g c = λ told.
    gang_kept (grind arith) (grind arith) (grind arith) (grind arith)
    (gang_keeps g.B.Bench told (λ b. (g.met.B.Bench.bytes b told).0) c.args.benches.now c.flmgang.new.benches _ _ c.flmgang.result
    (length c.args.words.now) c.flmgang.ensures.answers (c.flmgang.ensures.campaigns told))

pub returns-clause-answers : goal.returns-clause-answers
returns-clause-answers g c =
    gang_answered (grind arith) (grind arith) (grind arith) (grind arith)
    (grind arith) (grind arith) c.flmgang.ensures.answers
