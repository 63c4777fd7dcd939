-- `Player::call_step`: its clause `step`.
use Rattle.std.proofs.Common.{◌+◌, ℕ, sym, subst, arith}
use Rattle.std.proofs.lemmas.Grind.{common_steps}
use Rattle.algo_calls.specs.declared.call.Call.TheVariants.{UnInit}
use Rattle.flash_session.specs.declared.cursor.Cursor.{Cursor}
use Rattle.flash_session.specs.declared.cursor.Cursor.TheVariants as at
use Rattle.flash_session.specs.declared.cursor.Step.TheVariants as step
use Rattle.flash_session.specs.declared.region_plan.RegionPlan.{RegionPlan}
use Rattle.flash_session.specs.Rest.{after}
use Rattle.flash_session.specs.Steps.{IsStep}
use Rattle.flash_session.specs.Targets.{has_second}
use Rattle.flash_session.proofs.StepLemmas.{step_item, step_uninit}
use Rattle.flash_session.proofs.player.Player.call_step.Goals as goal

pub returns-in-Some-clause-step : goal.returns-in-Some-clause-step
returns-in-Some-clause-step c =
    subst (λ (p : RegionPlan). IsStep c.args.self.now (at.Calls c.args.region c.args.phase c.args.index)
    (step.Call c.in-Some.item.call (p.start + c.in-Some.item.from) c.in-Some.item.len (at.Calls c.args.region c.args.phase (c.in-Some.item.index + 1))))
    (sym c.region.ensures)
    (step_item c.args.self.now c.requires.scripted c.args.region c.args.phase c.args.index c.in-Some.item c.requires.cursor c.in-Some.ensures)

pub returns-in-None-clause-step : goal.returns-in-None-clause-step
returns-in-None-clause-step c =
    subst (λ (x : Cursor). IsStep c.args.self.now (at.Calls c.args.region c.args.phase c.args.index) (step.Call (UnInit c.kind.result) 0 0 x))
    (sym c.after.ensures)
    (subst (λ (n : ℕ). IsStep c.args.self.now (at.Calls c.args.region c.args.phase c.args.index)
    (step.Call (UnInit n) 0 0 (after (has_second c.args.self.now) c.args.region c.args.phase))) (sym c.kind.ensures)
    (step_uninit c.args.self.now c.args.region c.args.phase c.args.index c.requires.cursor c.in-None.ensures))

pub overflow_add-result : goal.overflow_add-result
overflow_add-result c = grind (arith, common_steps)
