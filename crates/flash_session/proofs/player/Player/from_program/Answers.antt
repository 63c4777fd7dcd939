-- `Player::from_program`: its contract, `IsPhaseFrom`.
use Rattle.std.proofs.Common.{Bool, subst}
use Rattle.flash_session.specs.declared.phase.Phase.TheVariants as stage
use Rattle.flash_session.specs.Steps.{has_phase}
use Rattle.flash_session.proofs.StepLemmas.{phase_here, program_on}
use Rattle.flash_session.proofs.player.Player.from_program.Goals as goal

pub returns-then-has_calls : goal.returns-then-has_calls
returns-then-has_calls c = phase_here c.args.self.now c.args.region stage.Program
    (subst (λ (b : Bool). has_phase c.args.self.now c.args.region stage.Program b) c.if-has_calls.true c.has_calls.ensures)

pub returns : goal.returns
returns c = program_on c.args.self.now c.args.region (subst (λ (b : Bool). has_phase c.args.self.now c.args.region stage.Program b) c.if-has_calls.false
    c.has_calls.ensures) c.from_verify.result c.from_verify.ensures
