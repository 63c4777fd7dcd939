-- From a run that returned after n steps to a call that is done.
use Rattle.std.proofs.Common.{◌≡◌, ◌+◌, ◌*◌, ◌/◌, ◌%◌, ◌<◌, ◌≤◌, ◌⊎◌, ℕ, Option, Some, None, length, slice_index, refl, sym, ap, subst, ap₂, ◌∙◌, inl, inr}
use Rattle.std.proofs.Common.{⊎_elim, arith, eq-eqb}
use Rattle.std.proofs.lemmas.Bool.{cases_lt}
use Rattle.armv6m_step.specs.Registers.{pc_of}
use Rattle.armv6m_step.specs.declared.ends.StepEnd.{StepEnd}
use Rattle.target_core.specs.Units.{state_op}
use Rattle.target_core.specs.World.{World}
use Rattle.target_core.specs.Path.{Point, whole, point, end_at, run_end, GoesTo}
use Rattle.target_core.specs.Runs.{run_end_of}
use Rattle.target_core.specs.declared.run.RunEnd.TheVariants as run
use Rattle.target_core.proofs.PathLemmas.{point_even, point_odd, away}
use Rattle.target_core.proofs.RunLemmas.{run_end_is, run_last_is}
use Rattle.algo_calls.specs.declared.call.CallEnd.TheVariants as call_end
use Rattle.algo_calls.specs.Ends.{success_of, call_end_of}
use Rattle.algo_calls.specs.Setups.{Setup}
use Rattle.algo_calls.specs.Frames.{Request, fuel_of, first_point, path_of, end_of, after}
use Rattle.algo_calls.specs.Duties.{OpensIn}
use Rattle.duty_proofs.specs.Lockstep.{GoesOn, AllGo}

goes_so : (back : ℕ) (r : Option (ℕ × ℕ)) (fuel : ℕ) (p : Point) (j : ℕ) → (j ≡ fuel → ⊥) → GoesOn back r (whole p j) → end_at back fuel p j ≡ None
unfolding end_at
goes_so back r fuel p j early on = rw (on.away, away j fuel early) (ap (λ (e : StepEnd). run_end e (pc_of (whole p j).core)) on.went)

goes_to : (back : ℕ) (r : Option (ℕ × ℕ)) (n fuel : ℕ) (p : Point) → n ≤ fuel → AllGo back r p n → GoesTo back fuel p n
goes_to back r n fuel p within all j below = goes_so back r fuel p j (λ same. omega arith) (all j below)

returns_at : (back fuel : ℕ) (p : Point) (n : ℕ) → pc_of (whole p n).core ≡ back →
    end_at back fuel p n ≡ Some (run.Returned (slice_index (whole p n).core.regs 0))
unfolding end_at
returns_at back fuel p n here = rw (eq-eqb _ _ here) refl

parity : (m : ℕ) → (m ≡ 2 * (m / 2)) ⊎ (m ≡ 2 * (m / 2) + 1)
parity m = ⊎_elim (λ (h : m % 2 < 1). inl (omega arith)) (λ (h : 1 ≤ m % 2). inr (omega arith)) (cases_lt (m % 2) 1)

-- at each point of a run an open operation is in the place
inside_points : (back : ℕ) (r : Option (ℕ × ℕ)) (n : ℕ) (p : Point) → AllGo back r p n → state_op (whole p n).world.state ≡ None →
    (m : ℕ) → m ≤ 2 * n → OpensIn r (state_op (point p m).world.state)
inside_points back r n p all idle m within = ⊎_elim
    (λ (even : m ≡ 2 * (m / 2)). subst (λ (i : ℕ). OpensIn r (state_op (point p i).world.state)) (sym even)
    (subst (λ (x : Point). OpensIn r (state_op x.world.state)) (sym (point_even p (m / 2)))
    (⊎_elim
    (λ (before : m / 2 < n). (all (m / 2) before).before)
    (λ (at : n ≤ m / 2).
    let last : n ≡ m / 2 = omega arith in
    subst (λ (i : ℕ). OpensIn r (state_op (whole p i).world.state)) last
    (subst (λ (o : Option (ℕ × ℕ)). OpensIn r o) (sym idle) tt))
    (cases_lt (m / 2) n))))
    (λ (odd : m ≡ 2 * (m / 2) + 1). subst (λ (i : ℕ). OpensIn r (state_op (point p i).world.state)) (sym odd)
    (subst (λ (x : Point). OpensIn r (state_op x.world.state)) (sym (point_odd p (m / 2)))
    ((all (m / 2) (omega (arith, within, odd))).within)))
    (parity m)

-- A call is done, leaves this target with no operation open, and opens operations only in a place.
pub record IsDone (s : Setup) (w : World) (q : Request) (r : Option (ℕ × ℕ)) (w' : World) : Type 0 where
  pub ends : end_of s w q ≡ call_end.Done
  pub leaves : after s w q ≡ w'
  pub idle : state_op w'.state ≡ None
  pub inside : (n : ℕ) → n ≤ (path_of s w q).last → OpensIn r (state_op (point (path_of s w q).first n).world.state)

module _ (s : Setup) (w : World) (a : Request) (r : Option (ℕ × ℕ)) (n : ℕ) (within : n ≤ fuel_of s a.call)
    (all : AllGo s.layout.return_at r (first_point s w a) n) (back : pc_of (whole (first_point s w a) n).core ≡ s.layout.return_at) where
  abbrev first : Point
  first = first_point s w a

  abbrev fuel : ℕ
  fuel = fuel_of s a.call

  abbrev r0 : ℕ
  r0 = slice_index (whole (first_point s w a) n).core.regs 0

  ended : run_end_of s.layout.return_at fuel first ≡ run.Returned r0
  ended = run_end_is s.layout.return_at fuel first n (run.Returned r0) within (goes_to s.layout.return_at r n fuel first within all)
      (returns_at s.layout.return_at fuel first n back)

  last_is : (path_of s w a).last ≡ 2 * n
  unfolding path_of
  last_is = run_last_is s.layout.return_at fuel first n (run.Returned r0) within (goes_to s.layout.return_at r n fuel first within all)
      (returns_at s.layout.return_at fuel first n back)

  first_is : (path_of s w a).first ≡ first
  unfolding path_of
  first_is = refl

  after_is : after s w a ≡ (whole first n).world
  unfolding after
  after_is = ap₂ (λ (x : Point) (m : ℕ). (point x m).world) first_is last_is ∙ ap (λ (x : Point). x.world) (point_even first n)

  pub run_done : r0 ≡ success_of a.call (length a.bytes) → state_op (whole first n).world.state ≡ None → IsDone s w a r (whole first n).world
  unfolding end_of
  run_done success idle = record {
    ends = ap (call_end_of (success_of a.call (length a.bytes))) ended ∙ (rw (eq-eqb _ _ success) refl);
    leaves = after_is;
    idle = idle;
    inside = λ m le. subst (λ (x : Point). OpensIn r (state_op (point x m).world.state)) (sym first_is)
        (inside_points s.layout.return_at r n first all idle m (omega (arith, le, last_is)));
  }
