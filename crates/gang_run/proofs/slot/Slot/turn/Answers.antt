-- `Slot::turn`: its clauses `turns` and `one`, and what a player's `turn` asks for.
use Rattle.std.proofs.Common.{◌∙◌, refl, sym}
use Rattle.gang_run.proofs.GangLemmas.{going_of, ready_more, slot_went, slot_took, slot_rests}
use Rattle.gang_run.proofs.slot.Slot.turn.Goals as goal

pub returns-in-More-clause-turns : goal.returns-in-More-clause-turns
returns-in-More-clause-turns g c =
    slot_went g.B.Bench c.args.self.now c.in-Open.target (record c.in-Open.target { player = c.turn.new.self }) c.state.result c.args.arena.now
    c.turn.new.arena c.args.bench.now c.turn.new.bench
    c.in-Open.is c.state.ensures c.in-More.is refl c.turn.ensures.turns

pub returns-in-More-clause-one : goal.returns-in-More-clause-one
returns-in-More-clause-one g c = slot_took g.B.Bench.tells c.args.steps c.args.self.now c.in-Open.target
    (record c.in-Open.target { player = c.turn.new.self }) c.args.arena.now c.turn.new.arena (g.B.Bench.state c.args.bench.now)
    (g.B.Bench.state c.turn.new.bench) c.in-Open.is c.turn.ensures.one c.turn.ensures.slice

pub returns-in-Ended-clause-one : goal.returns-in-Ended-clause-one
returns-in-Ended-clause-one g c = slot_rests g.B.Bench.tells c.args.steps c.args.self.now _ c.in-Open.target c.state.result _ _ _ _ c.in-Open.is
    c.state.ensures c.in-Ended.is

pub turn-requires-clause-fit : goal.turn-requires-clause-fit
turn-requires-clause-fit g c = (ready_more g.B.Bench.tells c.args.self.now c.in-Open.target c.state.result c.args.arena.now
    (g.B.Bench.state c.args.bench.now) c.in-Open.is c.state.ensures c.in-More.is c.requires.ready).fit

pub turn-requires-clause-size : goal.turn-requires-clause-size
turn-requires-clause-size g c = (ready_more g.B.Bench.tells c.args.self.now c.in-Open.target c.state.result c.args.arena.now
    (g.B.Bench.state c.args.bench.now) c.in-Open.is c.state.ensures c.in-More.is c.requires.ready).size

pub turn-requires-clause-stands : goal.turn-requires-clause-stands
turn-requires-clause-stands g c = (ready_more g.B.Bench.tells c.args.self.now c.in-Open.target c.state.result c.args.arena.now
    (g.B.Bench.state c.args.bench.now) c.in-Open.is c.state.ensures c.in-More.is c.requires.ready).stands

pub turn-requires-clause-only : goal.turn-requires-clause-only
turn-requires-clause-only g c = (ready_more g.B.Bench.tells c.args.self.now c.in-Open.target c.state.result c.args.arena.now
    (g.B.Bench.state c.args.bench.now) c.in-Open.is c.state.ensures c.in-More.is c.requires.ready).only

pub turn-requires-clause-unended : goal.turn-requires-clause-unended
turn-requires-clause-unended g c = going_of c.in-Open.target.player.place (sym c.state.ensures ∙ c.in-More.is)
