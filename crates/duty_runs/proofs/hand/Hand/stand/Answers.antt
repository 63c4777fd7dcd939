-- `Hand::stand`: its clauses `first` and `state`.
use Rattle.std.proofs.Common.{◌∙◌, List, [], ℕ, ap, ap₂}
use Rattle.target_core.specs.World.{World}
use Rattle.target_core.specs.Units.{unit_state}
use Rattle.algo_calls.specs.Setups.{Setup}
use Rattle.algo_calls.specs.Frames.{asked, first_point}
use Rattle.duty_runs.specs.States.{state_world}
use Rattle.duty_runs.specs.Hands.{hand_setup, hand_base, hand_map}
use Rattle.duty_runs.proofs.hand.Hand.stand.Goals as goal

pub returns-clause-first : goal.returns-clause-first
returns-clause-first c = λ cells.
    let self = c.args.self.now in
    let r = asked c.args.ask.now.call c.args.ask.now.bytes.now in
    c.prepare.ensures.first cells
    ∙ ap₂ (λ (s : Setup) (w : World). first_point s w r) c.stand_at.ensures.setup (c.stand_at.ensures.world cells)
    ∙ ap (λ (l : List ℕ). first_point (hand_setup self)
    (let w : World = record (state_world (hand_base self) (hand_map self) cells c.args.state.now) { ram = l } in w) r) c.deref.ensures.value

pub returns-clause-state : goal.returns-clause-state
returns-clause-state c = ap unit_state c.prepare.ensures.unit ∙ ap (λ (w : World). w.state) (c.stand_at.ensures.world [])
