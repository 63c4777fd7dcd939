-- Loads and stores in two runs.
use Rattle.std.proofs.Common.{◌≡◌, ◌%◌, ℕ, Bool, true, false, nat_eq, if◌then◌else◌, Option, Some, None, Result, Ok, Err, refl, subst}
use Rattle.bench_model.specs.declared.bench_fault.BusEnd.{BusEnd}
use Rattle.bench_model.specs.declared.bench_fault.BusEnd.TheVariants as bus_end
use Rattle.armv6m_step.specs.declared.core_state.Core.{Core}
use Rattle.armv6m_step.specs.declared.ends.StepEnd.TheVariants as end
use Rattle.armv6m_step.specs.Access.{Access, Load, Store}
use Rattle.armv6m_step.specs.Ends.{Outcome, OwnEnd, Break, Undefined, Unaligned, BadState, own_end, access_end, bus_end_at}
use Rattle.armv6m_step.specs.Meaning.{Meaning, Gives, Asks, load, store, stops}
use Rattle.armv6m_step.specs.Functional.{Answering, Stepped, given, follow, outcome}
use Rattle.shadow_step.specs.declared.marks.Mark.{Mark}
use Rattle.shadow_step.specs.declared.marks.CoreMarks.{CoreMarks}
use Rattle.shadow_step.specs.Marks.{Pages, Says}
use Rattle.shadow_step.specs.Rows.{Lockstep}
use Rattle.shadow_step.specs.Shadow.{Shadow, Marks, IsShadow, LoadAgrees, StepAgrees, Follows}
use Rattle.shadow_step.specs.MemoryRows.{marks, and_then, only_if}
use Rattle.shadow_step.specs.Steps.{with_bus}

pub own_not_went : (e : OwnEnd) → own_end e ≡ end.Went → ⊥
own_not_went (Break pc) is = cc
own_not_went (Undefined pc) is = cc
own_not_went (Unaligned at) is = cc
own_not_went (BadState pc) is = cc

bus_not_went : (at : ℕ) (e : BusEnd) → bus_end_at at e ≡ end.Went → ⊥
bus_not_went at bus_end.Fault is = cc
bus_not_went at bus_end.Device is = cc

same_some : {X : Type 0} (a b : X) → Some a ≡ Some b → a ≡ b
same_some a b e = cc

module _ {B M : Type 0} (p : Pages) (answers : Answering B) (Agrees : M → B → B → Type 0) (s : Shadow M) (is : IsShadow p answers Agrees s) where
  abbrev pub Goes : Option (Marks M) → Stepped B → Stepped B → Type 0
  Goes x r r' = Follows p Agrees x r r'

  pub none_goes : (r r' : Stepped B) → Goes None r r'
  none_goes r r' x e went = cc

  -- an instruction that has marks only if a mark is known
  pub only_goes : (k : Bool) (x : Option (Marks M)) (r r' : Stepped B) → (k ≡ true → Goes x r r') → Goes (only_if k x) r r'
  only_goes true x r r' step = step refl
  only_goes false x r r' step = none_goes r r'

  pub then_goes : {A : Type 0} (a : Option A) (f : A → Option (Marks M)) (r r' : Stepped B) → ((v : A) → a ≡ Some v → Goes (f v) r r') →
      Goes (and_then a f) r r'
  then_goes None f r r' step = none_goes r r'
  then_goes (Some v) f r r' step = step v refl

  -- an instruction without accesses agrees in both runs
  pub given_goes : (x : Option CoreMarks) (m : M) (core core' : Core) (b b' : B) (o o' : Outcome) → Agrees m b b' → Lockstep p x o o' →
      Goes (with_bus m x) (given core b o) (given core' b' o')
  given_goes None m core core' b b' o o' agrees step = none_goes _ _
  given_goes (Some t) m core core' b b' (Err e) o' agrees step = λ r is went. absurd (own_not_went e went)
  given_goes (Some t) m core core' b b' (Ok next) (Err e) agrees step = absurd step
  given_goes (Some t) m core core' b b' (Ok next) (Ok next') agrees step = λ r same went.
      subst (λ (q : Marks M). StepAgrees p Agrees q (given core b (Ok next)) (given core' b' (Ok next'))) (same_some (marks t m) r same)
      (record { went = refl; core = step; bus = agrees })

  pub gives_goes : (x : Option CoreMarks) (m : M) (core core' : Core) (b b' : B) (o o' : Outcome) → Agrees m b b' → Lockstep p x o o' →
      Goes (with_bus m x) (outcome answers (Gives o) core b) (outcome answers (Gives o') core' b')
  unfolding outcome
  gives_goes x m core core' b b' o o' agrees step = given_goes x m core core' b b' o o' agrees step

  abbrev stopped : Access → Core → B → BusEnd → Stepped B
  stopped access core b e = record { ends = access_end access e; core = core; bus = b }

  -- an instruction that begins with an answered load agrees in both runs
  load_answered : (x : Option (Marks M)) (width at : ℕ) (then' then'' : ℕ → Meaning) (core core' : Core) (b b' c c' : B) (k : Mark) (a a' : Result ℕ BusEnd) →
      c ≡ b → c' ≡ b' → ((v : ℕ) → a ≡ Ok v → LoadAgrees p k v a')
      → ((v v' : ℕ) → a ≡ Ok v → Says p k v v' → Goes x (outcome answers (then' v) core b) (outcome answers (then'' v') core' b'))
      → Goes x (follow a (λ v. outcome answers (then' v) core c) (stopped (Load width at) core c))
      (follow a' (λ v. outcome answers (then'' v) core' c') (stopped (Load width at) core' c'))
  load_answered x width at then' then'' core core' b b' c c' k (Ok v) a' left left' answered goes =
      let la : LoadAgrees p k v a' = answered v refl in
      rw (left, left', la.answered) (goes v la.value refl la.says)
  load_answered x width at then' then'' core core' b b' c c' k (Err e) a' left left' answered goes = λ r same went. absurd (bus_not_went at e went)

  load_by : (x : Option (Marks M)) (m : M) (width at : ℕ) (then' then'' : ℕ → Meaning) (core core' : Core) (b b' : B) (k : Mark) (even : Bool) →
      Agrees m b b' → s.load m width at ≡ Some k
      → ((v v' : ℕ) → (answers b (Load width at)).0 ≡ Ok v → Says p k v v'
      → Goes x (outcome answers (then' v) core b) (outcome answers (then'' v') core' b'))
      → Goes x (outcome answers (if even then Asks (Load width at) then' else stops (Unaligned at)) core b)
      (outcome answers (if even then Asks (Load width at) then'' else stops (Unaligned at)) core' b')
  unfolding outcome
  load_by x m width at then' then'' core core' b b' k true agrees marked goes =
      load_answered x width at then' then'' core core' b b' _ _ k (answers b (Load width at)).0 (answers b' (Load width at)).0 (is.stays b width at)
      (is.stays b' width at)
      (λ v answered. is.loads m b b' width at v k agrees marked answered) goes
  load_by x m width at then' then'' core core' b b' k false agrees marked goes = λ r same went. absurd (own_not_went (Unaligned at) went)

  pub load_goes : (x : Option (Marks M)) (m : M) (width at at' : ℕ) (then' then'' : ℕ → Meaning) (core core' : Core) (b b' : B) (k : Mark) →
      at' ≡ at → Agrees m b b' → s.load m width at ≡ Some k
      → ((v v' : ℕ) → (answers b (Load width at)).0 ≡ Ok v → Says p k v v'
      → Goes x (outcome answers (then' v) core b) (outcome answers (then'' v') core' b'))
      → Goes x (outcome answers (load width at then') core b) (outcome answers (load width at' then'') core' b')
  unfolding load
  load_goes x m width at at' then' then'' core core' b b' k same agrees marked goes =
      rw same (load_by x m width at then' then'' core core' b b' k (nat_eq (at % width) 0) agrees marked goes)

  store_answered : (x : Option (Marks M)) (m' : M) (width at u u' : ℕ) (then' then'' : Meaning) (core core' : Core) (c c' : B) (a a' : Result ℕ BusEnd) →
      ((v : ℕ) → a ≡ Ok v → (a' ≡ Ok v) × Agrees m' c c')
      → (Agrees m' c c' → Goes x (outcome answers then' core c) (outcome answers then'' core' c'))
      → Goes x (follow a (λ v. outcome answers then' core c) (stopped (Store width at u) core c))
      (follow a' (λ v. outcome answers then'' core' c') (stopped (Store width at u') core' c'))
  store_answered x m' width at u u' then' then'' core core' c c' (Ok v) a' answered goes =
      let both : (a' ≡ Ok v) × Agrees m' c c' = answered v refl in
      rw (both.0) (goes both.1)
  store_answered x m' width at u u' then' then'' core core' c c' (Err e) a' answered goes = λ r same went. absurd (bus_not_went at e went)

  store_by : (x : Option (Marks M)) (m m' : M) (width at v v' : ℕ) (k : Mark) (then' then'' : Meaning) (core core' : Core) (b b' : B) (even : Bool) →
      Agrees m b b' → Says p k v v' → s.store m width at v k ≡ Some m'
      → ((c c' : B) → Agrees m' c c' → Goes x (outcome answers then' core c) (outcome answers then'' core' c'))
      → Goes x (outcome answers (if even then Asks (Store width at v) (λ _. then') else stops (Unaligned at)) core b)
      (outcome answers (if even then Asks (Store width at v') (λ _. then'') else stops (Unaligned at)) core' b')
  unfolding outcome
  store_by x m m' width at v v' k then' then'' core core' b b' true agrees says marked goes =
      store_answered x m' width at v v' then' then'' core core' (answers b (Store width at v)).1 (answers b' (Store width at v')).1
      (answers b (Store width at v)).0 (answers b' (Store width at v')).0
      (λ u answered. is.stores m m' b b' width at v v' u k agrees says marked answered) (goes _ _)
  store_by x m m' width at v v' k then' then'' core core' b b' false agrees says marked goes = λ r same went. absurd (own_not_went (Unaligned at) went)

  pub store_goes : (x : Option (Marks M)) (m m' : M) (width at at' v v' : ℕ) (k : Mark) (then' then'' : Meaning) (core core' : Core) (b b' : B) →
      at' ≡ at → Agrees m b b' → Says p k v v' → s.store m width at v k ≡ Some m'
      → ((c c' : B) → Agrees m' c c' → Goes x (outcome answers then' core c) (outcome answers then'' core' c'))
      → Goes x (outcome answers (store width at v then') core b) (outcome answers (store width at' v' then'') core' b')
  unfolding store
  store_goes x m m' width at at' v v' k then' then'' core core' b b' same agrees says marked goes =
      rw same (store_by x m m' width at v v' k then' then'' core core' b b' (nat_eq (at % width) 0) agrees says marked goes)
