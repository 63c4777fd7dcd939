-- `Gang::turn`: its clauses `turn`, `gang`, `ready` and `one`, that an index fits, and what the `turn` of a slot asks for.
use Rattle.std.proofs.lemmas.Grind.{common_steps}
use Rattle.std.proofs.Common.{get_or, refl, ap, arith}
use Rattle.std.specs.Vec.{with_item}
use Rattle.gang_run.proofs.GangLemmas.{one_turn, gang_now, ready_now, takes_at}
use Rattle.gang_run.proofs.gang.Gang.turn.Goals as goal

pub returns-clause-turn : goal.returns-clause-turn
returns-clause-turn g c = one_turn g.B.Bench c.args.self.now
    (record { arena = c.turn.new.arena; slots = with_item c.args.self.now.slots c.args.target c.turn.new.self }) c.args.benches.now c.args.target
    c.index_mut.result.now c.turn.new.self (get_or c.args.benches.now c.args.target c.index-benches-target.result) c.turn.new.bench
    (omega (arith, c.requires.count, c.requires.target)) c.requires.target c.index_mut.ensures.value
    (ap (λ x. get_or c.args.benches.now c.args.target x) c.index-benches-target.is) refl c.turn.ensures.turns c.requires.gang

pub returns-clause-gang : goal.returns-clause-gang
returns-clause-gang g c = gang_now g.B.Bench c.args.self.now
    (record { arena = c.turn.new.arena; slots = with_item c.args.self.now.slots c.args.target c.turn.new.self }) c.args.benches.now c.args.target
    c.index_mut.result.now c.turn.new.self (get_or c.args.benches.now c.args.target c.index-benches-target.result) c.turn.new.bench
    (omega (arith, c.requires.count, c.requires.target)) c.requires.target c.index_mut.ensures.value
    (ap (λ x. get_or c.args.benches.now c.args.target x) c.index-benches-target.is) refl c.turn.ensures.turns c.requires.gang

pub returns-clause-ready : goal.returns-clause-ready
returns-clause-ready g c = ready_now g.B.Bench c.args.self.now
    (record { arena = c.turn.new.arena; slots = with_item c.args.self.now.slots c.args.target c.turn.new.self }) c.args.benches.now c.args.target
    c.index_mut.result.now c.turn.new.self (get_or c.args.benches.now c.args.target c.index-benches-target.result) c.turn.new.bench
    (omega (arith, c.requires.count, c.requires.target)) c.requires.target c.index_mut.ensures.value
    (ap (λ x. get_or c.args.benches.now c.args.target x) c.index-benches-target.is) refl c.turn.ensures.turns c.requires.gang c.requires.ready

pub returns-clause-one : goal.returns-clause-one
returns-clause-one g c = takes_at g.B.Bench c.args.self.now (record
    { arena = c.turn.new.arena; slots = with_item c.args.self.now.slots c.args.target c.turn.new.self }) c.args.benches.now c.args.target
    c.index_mut.result.now c.turn.new.self (get_or c.args.benches.now c.args.target c.index-benches-target.result) c.turn.new.bench
    (omega (arith, c.requires.count, c.requires.target)) c.requires.target c.index_mut.ensures.value
    (ap (λ x. get_or c.args.benches.now c.args.target x) c.index-benches-target.is) refl c.turn.ensures.turns c.requires.gang c.args.steps
    c.turn.ensures.one

pub turn-requires-clause-ready : goal.turn-requires-clause-ready
turn-requires-clause-ready g c = grind (arith, common_steps)

pub offset_bounds-benches-target : goal.offset_bounds-benches-target
offset_bounds-benches-target g c = grind (arith, common_steps)
