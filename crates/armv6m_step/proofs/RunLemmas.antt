-- How single accesses make a run.
use Rattle.std.proofs.Common.{◌≡◌, ℕ, ◌%◌, true, cond, nat_eq, refl, Ok, Err, Result, inl, inr}
use Rattle.bench_model.specs.declared.bench_fault.BusEnd.{BusEnd}
use Rattle.armv6m_step.specs.declared.core_state.Core.{Core}
use Rattle.armv6m_step.specs.declared.ends.Stop.{Stop}
use Rattle.armv6m_step.specs.declared.ends.StepEnd.{StepEnd}
use Rattle.armv6m_step.specs.Access.{Access, Load, Store, address}
use Rattle.armv6m_step.specs.Ends.{Outcome, Unaligned, stop_end}
use Rattle.armv6m_step.specs.Meaning.{Meaning, Gives, Asks, Leaves, Runs, load, store, stops, Refused, LoadGives, StoreGives}

module _ {B : Type 0} (acts : B → Access → Result ℕ BusEnd → B → Type 0) (core : Core) where
  -- the run of an instruction without accesses
  pub runs_gives : (o : Outcome) (b : B) (e : StepEnd) (core' : Core) → Leaves o core e core' → Runs acts (Gives o) core b e core' b
  unfolding Runs
  runs_gives o b e core' leaves = (leaves, refl)

  -- the run of an aligned access that was answered, and of one that wasn't made or wasn't answered
  asks_ok : (width : ℕ) (access : Access) (then' : ℕ → Meaning) (b mid after : B) (v : ℕ) (e : StepEnd) (core' : Core) →
      nat_eq (address access % width) 0 ≡ true → acts b access (Ok v) mid → Runs acts (then' v) core mid e core' after →
      Runs acts (cond (nat_eq (address access % width) 0) (Asks access then') (stops (Unaligned (address access)))) core b e core' after
  unfolding Runs
  asks_ok width access then' b mid after v e core' aligned act rest = rw aligned (Ok v, mid, act, rest)

  asks_err : (width : ℕ) (access : Access) (then' : ℕ → Meaning) (b after : B) (s : Stop) → Refused acts width access b s after →
      Runs acts (cond (nat_eq (address access % width) 0) (Asks access then') (stops (Unaligned (address access)))) core b (stop_end s) core after
  unfolding Runs
  asks_err width access then' b after s refused =
      elim refused [
        | inl unaligned ↦ rw unaligned.0 ((unaligned.1, refl), unaligned.2)
        | inr unanswered ↦ rw unanswered.0 (Err unanswered.1.0, after, unanswered.1.1, (unanswered.1.2, refl, refl))
      ]

  pub load_ok : (width at : ℕ) (then' : ℕ → Meaning) (b mid after : B) (v : ℕ) (e : StepEnd) (core' : Core) → LoadGives acts width at b (Ok v) mid →
      Runs acts (then' v) core mid e core' after → Runs acts (load width at then') core b e core' after
  unfolding load LoadGives
  load_ok width at then' b mid after v e core' gives rest = asks_ok width (Load width at) then' b mid after v e core' gives.0 gives.1 rest

  pub load_err : (width at : ℕ) (then' : ℕ → Meaning) (b after : B) (s : Stop) → LoadGives acts width at b (Err s) after →
      Runs acts (load width at then') core b (stop_end s) core after
  unfolding load LoadGives
  load_err width at then' b after s gives = asks_err width (Load width at) then' b after s gives

  pub store_ok : (width at value : ℕ) (then' : Meaning) (b mid after : B) (x : Unit {0}) (e : StepEnd) (core' : Core) →
      StoreGives acts width at value b (Ok x) mid → Runs acts then' core mid e core' after → Runs acts (store width at value then') core b e core' after
  unfolding store StoreGives
  store_ok width at value then' b mid after x e core' gives rest = asks_ok width (Store width at value) (λ _. then') b mid after 0 e core' gives.0 gives.1 rest

  pub store_err : (width at value : ℕ) (then' : Meaning) (b after : B) (s : Stop) → StoreGives acts width at value b (Err s) after →
      Runs acts (store width at value then') core b (stop_end s) core after
  unfolding store StoreGives
  store_err width at value then' b after s gives = asks_err width (Store width at value) (λ _. then') b after s gives

pub ruleset asks = (runs_gives, load_ok, load_err, store_ok, store_err)
