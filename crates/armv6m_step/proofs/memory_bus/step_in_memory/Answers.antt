-- `step_in_memory`: that it keeps its contract.
use Rattle.std.proofs.Common.{◌≡◌, ◌⊎◌, ℕ, Result, Err, inr, ⊎_elim}
use Rattle.bench_model.specs.declared.bench_fault.BusEnd.{BusEnd}
use Rattle.bench_model.specs.declared.bench_fault.BusEnd.TheVariants as bus_end
use Rattle.armv6m_step.specs.declared.ends.StepEnd.TheVariants as end
use Rattle.armv6m_step.specs.Access.{Access}
use Rattle.armv6m_step.specs.Ram.{Ram, ram_answer}
use Rattle.armv6m_step.specs.MemoryActs.{memory_acts}
use Rattle.armv6m_step.specs.Functional.{seen, step_of}
use Rattle.armv6m_step.proofs.FunctionalLemmas.{one_step}
use Rattle.armv6m_step.proofs.memory_bus.step_in_memory.Goals as goal

-- each access is a function of the bytes, and there is no device
alone : (b : Ram) (access : Access) (answer : Result ℕ BusEnd) (b' : Ram) → memory_acts b access answer b' → ((answer ≡ Err bus_end.Device) × ⊥) ⊎
    ((answer ≡ (ram_answer b access).0) × (b' ≡ (ram_answer b access).1))
alone b access answer b' acts = inr (acts.answered, acts.left)

pub returns : goal.returns
returns c = ⊎_elim
    (λ (failed : (c.step.result ≡ end.Device) × ⊥). absurd failed.1)
    (λ (same : seen c.step.result c.step.new.core c.step.new.bus ≡ step_of ram_answer c.args.core.now c.args.bus.now). same)
    (one_step memory_acts ram_answer (λ bus. bus) ⊥ alone c.args.core.now c.step.new.core c.args.bus.now c.step.new.bus c.step.result c.step.ensures.runs)
