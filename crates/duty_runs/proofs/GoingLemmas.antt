-- The run at hand of a call and every other run of it, step by step.
use Rattle.std.proofs.Common.{◌≡◌, ◌+◌, ℕ, zero, suc, Bool, true, false, List, length, Option, Some, None, refl, sym, ap, subst, ◌∙◌}
use Rattle.armv6m_decode.specs.declared.registers.TheConstants.{PC}
use Rattle.flash_layout.specs.declared.work.Operation.{Operation}
use Rattle.flash_layout.specs.Work.{range_of}
use Rattle.target_core.specs.Units.{UnitState, state_op}
use Rattle.target_core.specs.World.{World}
use Rattle.target_core.specs.Path.{Point, instructed, ticked, whole}
use Rattle.target_core.proofs.PathLemmas.{whole_on, whole_none}
use Rattle.algo_calls.specs.declared.call.Call.{Call}
use Rattle.algo_calls.specs.Setups.{Setup}
use Rattle.algo_calls.specs.Frames.{asked, first_point}
use Rattle.algo_calls.specs.Duties.{OpensIn}
use Rattle.shadow_step.specs.declared.marks.CoreMarks.{CoreMarks}
use Rattle.shadow_step.specs.Marks.{Pages, ArePages, is_known, mark_at}
use Rattle.shadow_step.specs.Shadow.{Marks}
use Rattle.shadow_step.specs.Steps.{step_marks}
use Rattle.shadow_step.specs.MemoryRows.{only_if}
use Rattle.armv6m_step.specs.declared.core_state.Core.{Core}
use Rattle.duty_proofs.specs.declared.cells.CellMark.{CellMark}
use Rattle.duty_proofs.specs.Lockstep.{GoesOn, PointAgrees, RunAgrees}
use Rattle.duty_proofs.specs.TargetMarks.{TargetMarks, TargetAgrees, target_shadow, target_tick, tick_by, tick_left}
use Rattle.duty_proofs.specs.Runs.{start_marks}
use Rattle.duty_proofs.proofs.LockstepLemmas.{StepGoes, point_follows, run_none, run_more}
use Rattle.duty_proofs.proofs.TargetLemmas.{is_shadow, same_operation}
use Rattle.duty_proofs.proofs.TickLemmas.{target_ticks}
use Rattle.duty_runs.specs.Asks.{own_page}
use Rattle.duty_runs.specs.Steps.{Steps}

-- an operation that continues or ends is in the same place as before

left_opens : (place : Option (ℕ × ℕ)) (m : TargetMarks) (o : Operation) (ticks : ℕ) → OpensIn place (range_of (Some o)) →
    OpensIn place (state_op (tick_left m o ticks).state)
left_opens place m o zero opens = tt
left_opens place m o (suc zero) opens = tt
left_opens place m o (suc (suc left)) opens = opens

tick_opens : (place : Option (ℕ × ℕ)) (m : TargetMarks) (o : Option Operation) → m.state.operation ≡ o → OpensIn place (range_of o) →
    OpensIn place (state_op (tick_by m o).state)
tick_opens place m None is opens = subst (λ (o : Option Operation). OpensIn place (range_of o)) (sym is) opens
tick_opens place m (Some o) is opens = left_opens place m o o.ticks opens

-- an instruction has marks only if the PC is known

only_true : {X : Type 0} (k : Bool) (o : Option X) (x : X) → only_if k o ≡ Some x → k ≡ true
only_true true o x is = refl
only_true false o x is = cc

counter_known : (t : CoreMarks) (m : TargetMarks) (core : Core) (half second : ℕ) (r : Marks TargetMarks) →
    step_marks target_shadow t m core half second ≡ Some r →
    is_known (mark_at t PC) ≡ true
unfolding step_marks
counter_known t m core half second r marked = only_true (is_known (mark_at t PC)) _ r marked

module _ (s : Setup) (place : Option (ℕ × ℕ)) (m : TargetMarks) (w : World) (c : Call) (bytes : List ℕ) (from : ℕ) (before : List CellMark) where
  abbrev first : List ℕ → World → Point
  first own x = first_point s x (asked c own)

  abbrev starts : ℕ → Marks TargetMarks
  starts n = start_marks s m n from before

  -- The run at hand has reached a point after n steps, with these marks. So has every other run from a target that the first marks fit.
  pub record Going (n : ℕ) (r : Marks TargetMarks) (x : Point) : Type 0 where
    pub here : x ≡ whole (first bytes w) n
    pub alike : (p : Pages) (w' : World) → ArePages p → p.here ≡ bytes → length p.there ≡ length p.here
        → PointAgrees p (TargetAgrees p) (starts (length p.here)) (first p.here w) (first p.there w')
        → RunAgrees p (TargetAgrees p) s.layout.return_at place (first p.here w) (first p.there w') n r
    pub opens : OpensIn place (state_op r.bus.state)
    pub small : ArePages (own_page bytes)
    pub start : PointAgrees (own_page bytes) (TargetAgrees (own_page bytes)) (starts (length bytes)) (first bytes w) (first bytes w)

  -- the marks hold of the run at hand itself
  pub own : (n : ℕ) (r : Marks TargetMarks) (x : Point) → Going n r x → PointAgrees (own_page bytes) (TargetAgrees (own_page bytes)) r x x
  own n r x going =
      let there : PointAgrees (own_page bytes) (TargetAgrees (own_page bytes)) r (whole (first bytes w) n) (whole (first bytes w) n) =
      (going.alike (own_page bytes) w going.small refl refl going.start).now in
      subst (λ (y : Point). PointAgrees (own_page bytes) (TargetAgrees (own_page bytes)) r y y) (sym going.here) there

  pub begins : (x : Point) (r : Marks TargetMarks) → x ≡ first bytes w → r ≡ starts (length bytes) → m.state.operation ≡ None → ArePages (own_page bytes) →
      PointAgrees (own_page bytes) (TargetAgrees (own_page bytes)) (starts (length bytes)) (first bytes w) (first bytes w) → Going 0 r x
  begins x r here is idle small start = record {
    here = here ∙ sym (whole_none (first bytes w));
    alike = λ p w' are same long agrees.
        let marks : starts (length p.here) ≡ r = ap (λ (b : List ℕ). starts (length b)) same ∙ sym is in
        run_none p are (TargetAgrees p) target_shadow (is_shadow p are) target_tick (λ m' y y' a. target_ticks p are m' y y' a) (same_operation p)
        s.layout.return_at place (first p.here w) (first p.there w') r
        (subst (λ (q : Marks TargetMarks). PointAgrees p (TargetAgrees p) q (first p.here w) (first p.there w')) marks agrees);
    opens = subst (λ (q : Marks TargetMarks). OpensIn place (state_op q.bus.state)) (sym is)
        (subst (λ (o : Option Operation). OpensIn place (range_of o)) (sym idle) tt);
    small = small;
    start = start;
  }

  goes_on : (n : ℕ) (r r' : Marks TargetMarks) (x x' : Point) → Going n r x → (step : Steps s.layout.return_at place x x' r r') →
      GoesOn s.layout.return_at place x
  goes_on n r r' x x' going step =
      let here : PointAgrees (own_page bytes) (TargetAgrees (own_page bytes)) r x x = own n r x going in
      let next : PointAgrees (own_page bytes) (TargetAgrees (own_page bytes)) step.between (instructed x) (instructed x) =
      (point_follows (own_page bytes) going.small (TargetAgrees (own_page bytes)) target_shadow (is_shadow (own_page bytes) going.small) target_tick
      (λ m' y y' a. target_ticks (own_page bytes) going.small m' y y' a) (same_operation (own_page bytes)) r step.between x x step.half step.second here
      step.fetches step.marked step.goes.went).1 in
      record {
        went = step.goes.went;
        away = step.goes.away;
        before = subst (λ (u : UnitState). OpensIn place (state_op u)) (sym here.bus.state) going.opens;
        within = subst (λ (u : UnitState). OpensIn place (state_op u)) (sym next.bus.state) step.within;
      }

  pub goes_further : (n : ℕ) (r r' : Marks TargetMarks) (x x' : Point) → Going n r x → Steps s.layout.return_at place x x' r r' → Going (n + 1) r' x'
  goes_further n r r' x x' going step = record {
    here = step.goes.leaves ∙ ap (λ (y : Point). ticked (instructed y)) going.here ∙ sym (whole_on (first bytes w) n);
    alike = λ p w' are same long agrees.
        let there : x ≡ whole (first p.here w) n = going.here ∙ ap (λ (b : List ℕ). whole (first b w) n) (sym same) in
        let one : StepGoes p are (TargetAgrees p) target_shadow (is_shadow p are) target_tick (λ m' y y' a. target_ticks p are m' y y' a) (same_operation p)
        s.layout.return_at place x r step.between = record {
          half = step.half;
          second = step.second;
          fetches = step.fetches;
          marked = step.marked;
          counter = counter_known r.core r.bus x.core step.half step.second step.between step.marked;
          goes = goes_on n r r' x x' going step;
        } in
        let more : RunAgrees p (TargetAgrees p) s.layout.return_at place (first p.here w) (first p.there w') (n + 1)
        (record { core = step.between.core; bus = tick_by step.between.bus step.between.bus.state.operation }) =
        run_more p are (TargetAgrees p) target_shadow (is_shadow p are) target_tick (λ m' y y' a. target_ticks p are m' y y' a) (same_operation p)
        s.layout.return_at place (first p.here w) (first p.there w') n r step.between
        (subst (λ (y : Point). StepGoes p are (TargetAgrees p) target_shadow (is_shadow p are) target_tick (λ m' z z' a. target_ticks p are m' z z' a)
        (same_operation p) s.layout.return_at place y r step.between) there one)
        (going.alike p w' are same long agrees) in
        subst (λ (q : Marks TargetMarks). RunAgrees p (TargetAgrees p) s.layout.return_at place (first p.here w) (first p.there w') (n + 1) q)
        (sym step.after) more;
    opens = subst (λ (q : Marks TargetMarks). OpensIn place (state_op q.bus.state)) (sym step.after)
        (tick_opens place step.between.bus step.between.bus.state.operation refl step.within);
    small = going.small;
    start = going.start;
  }
