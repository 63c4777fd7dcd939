-- An instruction over a bus runs as the same instruction over a view of the bus, if each access is a function of that view.
use Rattle.std.proofs.Common.{◌≡◌, ℕ, Bool, true, false, Ok, Err, Result, MatchResult, inl, inr, ◌⊎◌, refl, subst, ap, ◌∙◌, ⊎_elim}
use Rattle.std.proofs.lemmas.Bool.{or_left, or_right}
use Rattle.bench_model.specs.declared.bench_fault.BusEnd.{BusEnd}
use Rattle.bench_model.specs.declared.bench_fault.BusEnd.TheVariants as bus_end
use Rattle.armv6m_step.specs.declared.core_state.Core.{Core}
use Rattle.armv6m_step.specs.declared.ends.StepEnd.{StepEnd}
use Rattle.armv6m_step.specs.declared.ends.StepEnd.TheVariants as end
use Rattle.armv6m_step.specs.Access.{Access}
use Rattle.armv6m_step.specs.Ends.{Outcome, access_end}
use Rattle.armv6m_step.specs.Meaning.{Meaning, Gives, Asks, Leaves, Runs}
use Rattle.armv6m_step.specs.Step.{instruction}
use Rattle.armv6m_step.specs.Functional.{Answering, given, follow, outcome, step_of, makes, step_makes, seen}

same_seen : {W : Type 0} (e f : StepEnd) (c d : Core) (w x : W) → e ≡ f → c ≡ d → w ≡ x → seen e c w ≡ seen f d x
same_seen e f c d w x ends cores buses = cc

given_seen : {W : Type 0} (o : Outcome) (core core' : Core) (e : StepEnd) (w w' : W) → Leaves o core e core' → w' ≡ w → seen e core' w' ≡ given core w o
given_seen (Ok next) core core' e w w' leaves same = same_seen _ _ _ _ _ _ leaves.0 leaves.1 same
given_seen (Err own) core core' e w w' leaves same = same_seen _ _ _ _ _ _ leaves.0 leaves.1 same

-- If each access answers and leaves what `answers` says of the view, so does the instruction. The exception is a device failure: it needs the given excuse, and
-- an access that passes the test. For a bus without a device the excuse is the empty type.
module _ {B W : Type 0} (acts : B → Access → Result ℕ BusEnd → B → Type 0) (answers : Answering W) (view : B → W) (test : W → Access → Bool)
    (Excuse : Type 0) (alone : (b : B) (access : Access) (answer : Result ℕ BusEnd) (b' : B) → acts b access answer b'
    → ((answer ≡ Err bus_end.Device) × (test (view b) access ≡ true) × Excuse)
    ⊎ ((answer ≡ (answers (view b) access).0) × (view b' ≡ (answers (view b) access).1))) where
  abbrev Failed : Meaning → B → StepEnd → Type 0
  Failed m b e = (e ≡ end.Device) × (makes answers test m (view b) ≡ true) × Excuse

  abbrev Same : Meaning → Core → B → StepEnd → Core → B → Type 0
  Same m core b e core' b' = Failed m b e ⊎ (seen e core' (view b') ≡ outcome answers m core (view b))

  made_here : (access : Access) (then' : ℕ → Meaning) (w : W) → test w access ≡ true → makes answers test (Asks access then') w ≡ true
  unfolding makes
  made_here access then' w passes = or_left _ _ passes

  made_later : (access : Access) (then' : ℕ → Meaning) (w mid : W) (v : ℕ) → Ok v ≡ (answers w access).0 → mid ≡ (answers w access).1 →
      makes answers test (then' v) mid ≡ true → makes answers test (Asks access then') w ≡ true
  unfolding makes
  made_later access then' w mid v answered left later =
      let after : W = (answers w access).1 in
      or_right (test w access) _ (subst (λ (r : Result ℕ BusEnd). follow r (λ u. makes answers test (then' u) after) (λ x. false) ≡ true) answered
      (subst (λ (x : W). makes answers test (then' v) x ≡ true) left later))

  one_outcome : (m : Meaning) (core core' : Core) (b b' : B) (e : StepEnd) → Runs acts m core b e core' b' → Same m core b e core' b'
  unfolding Runs outcome
  one_outcome (Gives o) core core' b b' e runs = inr (given_seen o core core' e (view b) (view b') runs.0 (ap view runs.1))
  one_outcome (Asks access then') core core' b b' e runs =
      let after : W = (answers (view b) access).1 in
      (elim runs.0 as (λ answer. (mid : B) → acts b access answer mid → MatchResult answer (λ v. Runs acts (then' v) core mid e core' b')
      (λ x. (e ≡ access_end access x) × (core' ≡ core) × (b' ≡ mid)) → Same (Asks access then') core b e core' b') [
        | Ok v ↦ λ mid act rest. ⊎_elim
            (λ (failed : (Ok v ≡ Err bus_end.Device) × (test (view b) access ≡ true) × Excuse). cc)
            (λ (gave : (Ok v ≡ (answers (view b) access).0) × (view mid ≡ after)). ⊎_elim
            (λ (failed : Failed (then' v) mid e). inl (failed.0, made_later access then' (view b) (view mid) v gave.0 gave.1 failed.1, failed.2))
            (λ (went : seen e core' (view b') ≡ outcome answers (then' v) core (view mid)).
            let here : seen e core' (view b') ≡ outcome answers (then' v) core after =
            subst (λ (w : W). seen e core' (view b') ≡ outcome answers (then' v) core w) gave.1 went in
            inr (subst (λ (r : Result ℕ BusEnd). seen e core' (view b') ≡ follow r (λ u. outcome answers (then' u) core after)
            (λ x. record { ends = access_end access x; core = core; bus = after })) gave.0 here))
            (one_outcome (then' v) core core' mid b' e rest))
            (alone b access (Ok v) mid act)
        | Err x ↦ λ mid act rest. ⊎_elim
            (λ (failed : (Err x ≡ Err bus_end.Device) × (test (view b) access ≡ true) × Excuse).
            let device : x ≡ bus_end.Device = cc in
            inl (rest.0 ∙ ap (λ (y : BusEnd). access_end access y) device, made_here access then' (view b) failed.1, failed.2))
            (λ (gave : (Err x ≡ (answers (view b) access).0) × (view mid ≡ after)).
            let here : seen e core' (view b') ≡ seen (access_end access x) core after = same_seen _ _ _ _ _ _ rest.0 rest.1 (ap view rest.2 ∙ gave.1) in
            inr (subst (λ (r : Result ℕ BusEnd). seen e core' (view b') ≡ follow r (λ u. outcome answers (then' u) core after)
            (λ y. record { ends = access_end access y; core = core; bus = after })) gave.0 here))
            (alone b access (Err x) mid act)
      ]) runs.1 runs.2 runs.3

  -- the instruction at the PC runs as over the view, or ends by a device fault at an access that passes the test
  pub tested_step : (core core' : Core) (b b' : B) (e : StepEnd) → Runs acts (instruction core) core b e core' b' →
      ((e ≡ end.Device) × (step_makes answers test core (view b) ≡ true) × Excuse) ⊎ (seen e core' (view b') ≡ step_of answers core (view b))
  unfolding step_of step_makes
  tested_step core core' b b' e runs = one_outcome (instruction core) core core' b b' e runs

-- the instruction at the PC runs as over the view, or ends by a device fault
module _ {B W : Type 0} (acts : B → Access → Result ℕ BusEnd → B → Type 0) (answers : Answering W) (view : B → W) (Excuse : Type 0)
    (alone : (b : B) (access : Access) (answer : Result ℕ BusEnd) (b' : B) → acts b access answer b'
    → ((answer ≡ Err bus_end.Device) × Excuse) ⊎ ((answer ≡ (answers (view b) access).0) × (view b' ≡ (answers (view b) access).1))) where
  pub one_step : (core core' : Core) (b b' : B) (e : StepEnd) → Runs acts (instruction core) core b e core' b' → ((e ≡ end.Device) × Excuse) ⊎
      (seen e core' (view b') ≡ step_of answers core (view b))
  one_step core core' b b' e runs = ⊎_elim
      (λ (failed : (e ≡ end.Device) × (step_makes answers (λ w access. true) core (view b) ≡ true) × Excuse). inl (failed.0, failed.2))
      inr
      (tested_step acts answers view (λ w access. true) Excuse (λ x access answer x' act. ⊎_elim
      (λ (failed : (answer ≡ Err bus_end.Device) × Excuse). inl (failed.0, refl, failed.1))
      inr
      (alone x access answer x' act)) core core' b b' e runs)
