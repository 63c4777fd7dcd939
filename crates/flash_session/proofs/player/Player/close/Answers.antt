-- `Player::close`: its clauses `turns` and `still`.
use Rattle.std.proofs.Common.{refl}
use Rattle.flash_session.proofs.TurnMade.{done_turn, store_turn}
use Rattle.flash_session.proofs.player.Player.close.Goals as goal

pub returns-in-Ok-clause-turns : goal.returns-in-Ok-clause-turns
returns-in-Ok-clause-turns g c = λ goal_now.
    done_turn g.B.Bench.tells goal_now c.args.self.now c.args.arena.now (g.B.Bench.state c.args.bench.now) c.requires.fit c.requires.place
    (g.B.Bench.state c.close.new.bench) c.close.ensures.cells c.close.ensures.moments
    (λ told x. g.met.B.Bench.as_told c.args.bench.now x told) (c.in-Ok.ensures.cause.on_ok refl) (λ told. (c.in-Ok.ensures.ok told).0)

pub returns-in-Err-StoreFault-clause-turns : goal.returns-in-Err-StoreFault-clause-turns
returns-in-Err-StoreFault-clause-turns g c = λ goal_now.
    store_turn g.B.Bench.tells goal_now c.args.self.now c.args.arena.now (g.B.Bench.state c.args.bench.now) c.requires.fit c.requires.place
    (g.B.Bench.state c.close.new.bench) c.close.ensures.cells c.close.ensures.moments
    (λ told x. g.met.B.Bench.as_told c.args.bench.now x told) c.in-Err-StoreFault.ensures.cause.later (c.in-Err-StoreFault.ensures.cause.on_fault refl)
    c.in-Err-StoreFault.ensures.err

pub returns-in-Ok-clause-still : goal.returns-in-Ok-clause-still
returns-in-Ok-clause-still g c =
    let cells = c.close.ensures.cells in
    record { made = refl; untouched = record { calls = refl; ram = refl; stays = λ told. record { operation = cells.operation; cells = cells.cells } } }

pub returns-in-Err-StoreFault-clause-still : goal.returns-in-Err-StoreFault-clause-still
returns-in-Err-StoreFault-clause-still g c =
    let cells = c.close.ensures.cells in
    record { made = refl; untouched = record { calls = refl; ram = refl; stays = λ told. record { operation = cells.operation; cells = cells.cells } } }
