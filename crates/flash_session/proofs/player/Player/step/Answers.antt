-- `Player::step`: its clause `step`.
use Rattle.std.proofs.Common.{ℕ, sym, subst, arith}
use Rattle.std.proofs.lemmas.Grind.{common_steps}
use Rattle.algo_calls.specs.declared.call.Call.TheVariants.{Init}
use Rattle.flash_session.specs.declared.cursor.Cursor.{Cursor}
use Rattle.flash_session.specs.declared.cursor.Cursor.TheVariants as at
use Rattle.flash_session.specs.declared.cursor.Step.TheVariants as step
use Rattle.flash_session.specs.Steps.{IsStep, IsCursor}
use Rattle.flash_session.specs.Targets.{has_second}
use Rattle.flash_session.proofs.StepLemmas.{step_init}
use Rattle.flash_session.proofs.player.Player.step.Goals as goal

pub returns-in-Init-clause-step : goal.returns-in-Init-clause-step
returns-in-Init-clause-step c =
    let g = c.args.self.now in
    subst (λ (x : Cursor). IsStep g x (step.Call (Init c.kind.result) 0 0 (at.Calls c.in-Init.region c.in-Init.phase 0))) (sym c.in-Init.is)
    (subst (λ (n : ℕ). IsStep g (at.Init c.in-Init.region c.in-Init.phase) (step.Call (Init n) 0 0 (at.Calls c.in-Init.region c.in-Init.phase 0)))
    (sym c.kind.ensures)
    (step_init g c.in-Init.region c.in-Init.phase (subst (λ (x : Cursor). IsCursor (has_second g) g.moved x) c.in-Init.is c.requires.cursor)))

pub returns-in-Last-clause-step : goal.returns-in-Last-clause-step
returns-in-Last-clause-step c = grind (arith, common_steps)
