-- Over a bus that gives one answer to each access, an instruction has one outcome, which can be computed.
use Rattle.std.specs.Prelude.{ℕ, Bool, false, ◌||◌, Result, Ok, Err}
use Rattle.bench_model.specs.declared.bench_fault.BusEnd.{BusEnd}
use Rattle.armv6m_step.specs.declared.core_state.Core.{Core}
use Rattle.armv6m_step.specs.declared.ends.StepEnd.{StepEnd}
use Rattle.armv6m_step.specs.declared.ends.StepEnd.TheVariants as end
use Rattle.armv6m_step.specs.Access.{Access}
use Rattle.armv6m_step.specs.Ends.{Outcome, own_end, access_end}
use Rattle.armv6m_step.specs.Meaning.{Meaning, Gives, Asks}
use Rattle.armv6m_step.specs.Step.{instruction}

-- a bus that is a function: the answer to an access, and the bus after it
abbrev pub Answering : Type 0 → Type 0
Answering B = B → Access → Result ℕ BusEnd × B

-- the end of a step, with the core and the bus that it leaves
pub record Stepped (B : Type 0) : Type 0 where
  pub ends : StepEnd
  pub core : Core
  pub bus : B

abbrev pub given : {B : Type 0} → Core → B → Outcome → Stepped B
given core bus (Ok next) = record { ends = end.Went; core = next; bus = bus }
given core bus (Err own) = record { ends = own_end own; core = core; bus = bus }

abbrev pub follow : {X : Type 0} → Result ℕ BusEnd → (ℕ → X) → (BusEnd → X) → X
follow (Ok v) ok err = ok v
follow (Err e) ok err = err e

unfoldable pub outcome : {B : Type 0} → Answering B → Meaning → Core → B → Stepped B
outcome answers (Gives o) core bus = given core bus o
outcome answers (Asks access then') core bus =
    follow (answers bus access).0
    (λ v. outcome answers (then' v) core (answers bus access).1)
    (λ x. record { ends = access_end access x; core = core; bus = (answers bus access).1 })

-- the result of the instruction at the PC over such a bus
unfoldable pub step_of : {B : Type 0} → Answering B → Core → B → Stepped B
step_of answers core bus = outcome answers (instruction core) core bus

-- whether an instruction over such a bus makes an access that passes a test
unfoldable pub makes : {B : Type 0} → Answering B → (B → Access → Bool) → Meaning → B → Bool
makes answers test (Gives o) bus = false
makes answers test (Asks access then') bus =
    test bus access || follow (answers bus access).0 (λ v. makes answers test (then' v) (answers bus access).1) (λ x. false)

-- whether the instruction at the PC makes an access that passes a test
unfoldable pub step_makes : {B : Type 0} → Answering B → (B → Access → Bool) → Core → B → Bool
step_makes answers test core bus = makes answers test (instruction core) bus

-- the end of a step, its core and a view of its bus, as one value
abbrev pub seen : {W : Type 0} → StepEnd → Core → W → Stepped W
seen e core w = record { ends = e; core = core; bus = w }
