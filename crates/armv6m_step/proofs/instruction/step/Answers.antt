-- `step`: its clauses `kept` and `cause`.
use Rattle.armv6m_step.specs.Step.{instruction}
use Rattle.armv6m_step.proofs.InstructionLemmas.{runs_counted, core_kept}
use Rattle.armv6m_step.proofs.instruction.step.Goals as goal

pub returns-clause-kept : goal.returns-clause-kept
returns-clause-kept g c =
    rw c.step_end.ensures (core_kept g.B.Bus.acts (instruction c.args.core.now) c.args.core.now c.fetch_and_execute.new.core c.args.bus.now
    c.fetch_and_execute.new.bus _ c.fetch_and_execute.ensures)

pub returns-clause-cause : goal.returns-clause-cause
returns-clause-cause g c =
    rw c.step_end.ensures (runs_counted g.B.Bus.acts g.B.Bus.faults (λ before access answer after act. g.met.B.Bus.counted before access answer after act)
    (instruction c.args.core.now) c.args.core.now c.fetch_and_execute.new.core c.args.bus.now c.fetch_and_execute.new.bus _ c.fetch_and_execute.ensures)
