-- Marks of the contents of a bus, and when they are right.
use Rattle.std.specs.Prelude.{◌≡◌, ℕ, Option, Some, Result, Ok}
use Rattle.bench_model.specs.declared.bench_fault.BusEnd.{BusEnd}
use Rattle.armv6m_step.specs.declared.ends.StepEnd.TheVariants as end
use Rattle.armv6m_step.specs.Access.{Load, Store}
use Rattle.armv6m_step.specs.Functional.{Answering, Stepped}
use Rattle.shadow_step.specs.declared.marks.Mark.{Mark}
use Rattle.shadow_step.specs.declared.marks.CoreMarks.{CoreMarks}
use Rattle.shadow_step.specs.Marks.{Pages, Says, CoreAgrees}

-- The marks of a bus. `load` gives the mark of the number that a load reads, by width and address. `store` gives the marks after a store,
-- by width, address, value and mark. None means that the access may act differently in other runs.
pub record Shadow (M : Type 0) : Type 0 where
  pub load : M → ℕ → ℕ → Option Mark
  pub store : M → ℕ → ℕ → ℕ → Mark → Option M

-- The marks of the core and of the bus after an instruction.
pub record Marks (M : Type 0) : Type 0 where
  pub core : CoreMarks
  pub bus : M

-- another bus answers a load that the bus at hand answers, and the mark holds of both numbers
pub record LoadAgrees (p : Pages) (k : Mark) (v : ℕ) (answer : Result ℕ BusEnd) : Type 0 where
  pub value : ℕ
  pub answered : answer ≡ Ok value
  pub says : Says p k v value

-- A shadow of a bus: what its marks say of the bus at hand and of another one stays true over each access that is answered.
pub record IsShadow {B M : Type 0} (p : Pages) (answers : Answering B) (Agrees : M → B → B → Type 0) (s : Shadow M) : Type 0 where
  pub stays : (b : B) (width at : ℕ) → (answers b (Load width at)).1 ≡ b
  pub loads : (m : M) (b b' : B) (width at v : ℕ) (k : Mark) → Agrees m b b' → s.load m width at ≡ Some k → (answers b (Load width at)).0 ≡ Ok v
      → LoadAgrees p k v (answers b' (Load width at)).0
  pub stores : (m m' : M) (b b' : B) (width at v v' x : ℕ) (k : Mark) → Agrees m b b' → Says p k v v' → s.store m width at v k ≡ Some m'
      → (answers b (Store width at v)).0 ≡ Ok x
      → ((answers b' (Store width at v')).0 ≡ Ok x) × Agrees m' (answers b (Store width at v)).1 (answers b' (Store width at v')).1

-- An instruction that continued at hand continues in another run, and the marks hold of what both leave.
pub record StepAgrees {B M : Type 0} (p : Pages) (Agrees : M → B → B → Type 0) (r : Marks M) (s s' : Stepped B) : Type 0 where
  pub went : s'.ends ≡ end.Went
  pub core : CoreAgrees p r.core s.core s'.core
  pub bus : Agrees r.bus s.bus s'.bus

abbrev pub Follows : {B M : Type 0} → Pages → (M → B → B → Type 0) → Option (Marks M) → Stepped B → Stepped B → Type 0
Follows {M} p Agrees x s s' = (r : Marks M) → x ≡ Some r → s.ends ≡ end.Went → StepAgrees p Agrees r s s'
