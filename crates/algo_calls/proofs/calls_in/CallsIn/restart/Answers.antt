-- `CallsIn::restart`: its clause `world`.
use Rattle.algo_calls.specs.Shows.{setup_at, world_at}
use Rattle.algo_calls.proofs.ResetLemmas.{restart_of}
use Rattle.algo_calls.proofs.calls_in.CallsIn.restart.Goals as goal

pub returns-clause-world : goal.returns-clause-world
returns-clause-world c = λ cells.
    let self = c.args.self.now in
    restart_of (setup_at self) (world_at self c.args.arena.now c.args.window cells) _ _ _ _ c.restart.ensures.base c.restart.ensures.map c.restart.ensures.bytes
    c.restart.ensures.unit
