-- What an instruction does: it gives a core or an end, or it makes an access and continues with the answer.
use Rattle.std.specs.Prelude.{◌≡◌, ℕ, ◌%◌, nat_eq, if◌then◌else◌, Result, Ok, Err, MatchResult, ◌⊎◌, true, false}
use Rattle.bench_model.specs.declared.bench_fault.BusEnd.{BusEnd}
use Rattle.armv6m_step.specs.declared.core_state.Core.{Core}
use Rattle.armv6m_step.specs.declared.ends.Stop.{Stop}
use Rattle.armv6m_step.specs.declared.ends.StepEnd.{StepEnd}
use Rattle.armv6m_step.specs.declared.ends.StepEnd.TheVariants as end
use Rattle.armv6m_step.specs.Access.{Access, Load, Store, address}
use Rattle.armv6m_step.specs.Ends.{OwnEnd, Unaligned, Outcome, own_end, access_end, stop_end}

pub data Meaning : Type 0 where
  Gives : Outcome → Meaning
  Asks : Access → (ℕ → Meaning) → Meaning

abbrev pub stops : OwnEnd → Meaning
stops e = Gives (Err e)

-- a load or a store: if its address isn't a multiple of its width, the instruction ends and the bus isn't asked
unfoldable pub load : ℕ → ℕ → (ℕ → Meaning) → Meaning
load width at then' = if nat_eq (at % width) 0 then Asks (Load width at) then' else stops (Unaligned at)

unfoldable pub store : ℕ → ℕ → ℕ → Meaning → Meaning
store width at value then' = if nat_eq (at % width) 0 then Asks (Store width at value) (λ _. then') else stops (Unaligned at)

-- what a bus may do at an access: the bus before it, the access, the answer, and the bus after it
abbrev pub Acts : Type 0 → Type 1
Acts B = B → Access → Result ℕ BusEnd → B → Type 0

-- the end and the core that an outcome leaves; an instruction that ends other than by Went leaves the core as it was
abbrev pub Leaves : Outcome → Core → StepEnd → Core → Type 0
Leaves (Ok core') core e after = (e ≡ end.Went) × (after ≡ core')
Leaves (Err own) core e after = (e ≡ own_end own) × (after ≡ core)

-- An instruction of this meaning, from a core and a bus, may end this way and leave this core and this bus. The bus answers the accesses
-- one by one, up to the first that it doesn't answer.
unfoldable pub Runs : {B : Type 0} → Acts B → Meaning → Core → B → StepEnd → Core → B → Type 0
Runs acts (Gives outcome) core bus e core' bus' = Leaves outcome core e core' × (bus' ≡ bus)
Runs {B} acts (Asks access then') core bus e core' bus' =
    (answer : Result ℕ BusEnd) × (mid : B) × acts bus access answer mid
    × MatchResult answer (λ v. Runs acts (then' v) core mid e core' bus') (λ x. (e ≡ access_end access x) × (core' ≡ core) × (bus' ≡ mid))

-- ---- what one access at any address gives

-- an access that is refused before it is made, or that the bus doesn't answer
abbrev pub Refused : {B : Type 0} → Acts B → ℕ → Access → B → Stop → B → Type 0
Refused acts width access before s after =
    ((nat_eq (address access % width) 0 ≡ false) × (stop_end s ≡ end.Unaligned (address access)) × (after ≡ before))
    ⊎ ((nat_eq (address access % width) 0 ≡ true) × ((x : BusEnd) × acts before access (Err x) after × (stop_end s ≡ access_end access x)))

unfoldable pub LoadGives : {B : Type 0} → Acts B → ℕ → ℕ → B → Result ℕ Stop → B → Type 0
LoadGives acts width at before (Ok v) after = (nat_eq (at % width) 0 ≡ true) × acts before (Load width at) (Ok v) after
LoadGives acts width at before (Err s) after = Refused acts width (Load width at) before s after

unfoldable pub StoreGives : {B : Type 0} → Acts B → ℕ → ℕ → ℕ → B → Result (Unit {0}) Stop → B → Type 0
StoreGives acts width at value before (Ok x) after = (nat_eq (at % width) 0 ≡ true) × acts before (Store width at value) (Ok 0) after
StoreGives acts width at value before (Err s) after = Refused acts width (Store width at value) before s after
