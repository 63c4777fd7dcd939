-- A step with the PC kept apart is the step of the core with that PC.
use Rattle.std.proofs.Common.{sym, ap, ◌∙◌, arith}
use Rattle.armv6m_step.specs.Registers.{pc_of, moved}
use Rattle.armv6m_step.specs.Step.{instruction}
use Rattle.armv6m_step.proofs.InstructionLemmas.{runs_counted}
use Rattle.armv6m_step.proofs.QuickLemmas.{was_went, was_done, was_left}
use Rattle.armv6m_step.proofs.RunLemmas.{asks}
use Rattle.std.proofs.lemmas.Bool.Decides.{nat_tests}
use Rattle.armv6m_step.proofs.quick.step_at.Goals as goal

pub quick_step-requires : goal.quick_step-requires
quick_step-requires g c = sym (ap pc_of c.go_to.ensures ∙ c.requires)

pub returns-in-Went-clause-runs : goal.returns-in-Went-clause-runs
returns-in-Went-clause-runs g c =
    was_went g.B.Bus.acts (moved c.args.core.now c.args.pc.now) c.go_to.new.self c.quick_step.new.core c.args.bus.now c.quick_step.new.bus
    c.quick_step.result c.go_to.ensures c.quick_step.ensures
    c.in-Went.to c.at_hand.result c.in-Went.is c.at_hand.ensures.same

pub returns-in-Went-clause-cause : goal.returns-in-Went-clause-cause
returns-in-Went-clause-cause g c =
    runs_counted g.B.Bus.acts g.B.Bus.faults (λ before access answer after act. g.met.B.Bus.counted before access answer after act)
    (instruction (moved c.args.core.now c.args.pc.now)) (moved c.args.core.now c.args.pc.now) _ c.args.bus.now c.quick_step.new.bus _
    (was_went g.B.Bus.acts (moved c.args.core.now c.args.pc.now) c.go_to.new.self c.quick_step.new.core c.args.bus.now c.quick_step.new.bus
    c.quick_step.result c.go_to.ensures c.quick_step.ensures
    c.in-Went.to c.at_hand.result c.in-Went.is c.at_hand.ensures.same)

pub returns-in-Done-clause-runs : goal.returns-in-Done-clause-runs
returns-in-Done-clause-runs g c =
    was_done g.B.Bus.acts (moved c.args.core.now c.args.pc.now) c.go_to.new.self c.quick_step.new.core c.args.bus.now c.quick_step.new.bus
    c.quick_step.result c.go_to.ensures c.quick_step.ensures
    c.in-Done.end c.at_hand-in-Done.result c.in-Done.is (c.at_hand-in-Done.ensures.same ∙ c.pc.ensures)

pub returns-in-Done-clause-cause : goal.returns-in-Done-clause-cause
returns-in-Done-clause-cause g c =
    runs_counted g.B.Bus.acts g.B.Bus.faults (λ before access answer after act. g.met.B.Bus.counted before access answer after act)
    (instruction (moved c.args.core.now c.args.pc.now)) (moved c.args.core.now c.args.pc.now) _ c.args.bus.now c.quick_step.new.bus _
    (was_done g.B.Bus.acts (moved c.args.core.now c.args.pc.now) c.go_to.new.self c.quick_step.new.core c.args.bus.now c.quick_step.new.bus
    c.quick_step.result c.go_to.ensures c.quick_step.ensures
    c.in-Done.end c.at_hand-in-Done.result c.in-Done.is (c.at_hand-in-Done.ensures.same ∙ c.pc.ensures))

pub returns-in-Left-clause-runs : goal.returns-in-Left-clause-runs
returns-in-Left-clause-runs g c =
    was_left g.B.Bus.acts (moved c.args.core.now c.args.pc.now) c.go_to.new.self c.quick_step.new.core c.args.bus.now c.quick_step.new.bus
    c.quick_step.result c.go_to.ensures c.quick_step.ensures
    c.step_out-end.result c.at_hand-in-Left.result c.step_out-end.new.core c.step_out-end.new.bus c.in-Left.is
    (c.at_hand-in-Left.ensures.same ∙ c.pc-in-Left.ensures) c.step_out-end.ensures.runs

pub returns-in-Left-clause-cause : goal.returns-in-Left-clause-cause
returns-in-Left-clause-cause g c =
    runs_counted g.B.Bus.acts g.B.Bus.faults (λ before access answer after act. g.met.B.Bus.counted before access answer after act)
    (instruction (moved c.args.core.now c.args.pc.now)) (moved c.args.core.now c.args.pc.now) _ c.args.bus.now c.step_out-end.new.bus _
    (was_left g.B.Bus.acts (moved c.args.core.now c.args.pc.now) c.go_to.new.self c.quick_step.new.core c.args.bus.now c.quick_step.new.bus
    c.quick_step.result c.go_to.ensures c.quick_step.ensures
    c.step_out-end.result c.at_hand-in-Left.result c.step_out-end.new.core c.step_out-end.new.bus c.in-Left.is
    (c.at_hand-in-Left.ensures.same ∙ c.pc-in-Left.ensures) c.step_out-end.ensures.runs)

pub returns-in-Left-clause-pc : goal.returns-in-Left-clause-pc
returns-in-Left-clause-pc g c = grind (arith, asks, nat_tests)
