-- Another run makes the same steps as the run at hand, and returns when that returns.
use Rattle.std.proofs.Common.{◌≡◌, ◌+◌, ◌<◌, ◌≤◌, ℕ, true, nat_eq, Option, Some, None, length, slice_index, sym, ap, subst, ◌∙◌}
use Rattle.std.proofs.Common.{⊎_elim, arith}
use Rattle.std.proofs.lemmas.Bool.{cases_lt}
use Rattle.armv6m_decode.specs.declared.registers.TheConstants.{PC}
use Rattle.armv6m_step.specs.declared.ends.StepEnd.TheVariants as end
use Rattle.armv6m_step.specs.Registers.{pc_of}
use Rattle.armv6m_step.specs.Functional.{step_of}
use Rattle.target_core.specs.Units.{state_op}
use Rattle.target_core.specs.World.{World, world_answer, world_tick}
use Rattle.target_core.specs.Path.{Point, instructed, step_end, ticked, whole}
use Rattle.target_core.proofs.PathLemmas.{whole_on, whole_none}
use Rattle.algo_calls.specs.Ends.{success_of}
use Rattle.algo_calls.specs.Setups.{Setup}
use Rattle.algo_calls.specs.Frames.{Request, fuel_of, first_point}
use Rattle.algo_calls.specs.Duties.{OpensIn}
use Rattle.shadow_step.specs.Marks.{Pages, ArePages, is_known, mark_at}
use Rattle.shadow_step.specs.Shadow.{Shadow, Marks, IsShadow, StepAgrees}
use Rattle.shadow_step.specs.Steps.{step_marks}
use Rattle.shadow_step.proofs.MarkLemmas.{known_same}
use Rattle.shadow_step.proofs.StepLemmas.{step_follows}
use Rattle.duty_proofs.specs.Lockstep.{Fetches, GoesOn, PointAgrees, RunAgrees}
use Rattle.duty_proofs.proofs.DoneLemmas.{IsDone, run_done}

module _ {M : Type 0} (p : Pages) (bytes : ArePages p) (Agrees : M → World → World → Type 0) (s : Shadow M) (is : IsShadow p world_answer Agrees s)
    (tick : M → World → M) (ticks : (m : M) (w w' : World) → Agrees m w w' → Agrees (tick m w) (world_tick w) (world_tick w'))
    (operations : (m : M) (w w' : World) → Agrees m w w' → state_op w'.state ≡ state_op w.state) where
  abbrev Alike : Marks M → Point → Point → Type 0
  Alike r x x' = PointAgrees p Agrees r x x'

  pub point_follows : (r r' : Marks M) (x x' : Point) (half second : ℕ) → Alike r x x' → Fetches x half second →
      step_marks s r.core r.bus x.core half second ≡ Some r' → step_end x ≡ end.Went → (step_end x' ≡ end.Went) × Alike r' (instructed x) (instructed x')
  unfolding step_end instructed
  point_follows r r' x x' half second alike fetches marked went =
      let next : StepAgrees p Agrees r' (step_of world_answer x.core x.world) (step_of world_answer x'.core x'.world) =
      step_follows p bytes world_answer Agrees s is r.core r.bus x.core x'.core x.world x'.world alike.core alike.bus half second fetches.first fetches.then'
      r' marked went in
      (next.went, record { core = next.core; bus = next.bus })

  -- what a step of the run at hand shows
  pub record StepGoes (back : ℕ) (place : Option (ℕ × ℕ)) (x : Point) (r r' : Marks M) : Type 0 where
    pub half : ℕ
    pub second : ℕ
    pub fetches : Fetches x half second
    pub marked : step_marks s r.core r.bus x.core half second ≡ Some r'
    pub counter : is_known (mark_at r.core PC) ≡ true
    pub goes : GoesOn back place x

  -- the marks after the tick of a step
  abbrev pub after_tick : Marks M → Point → Marks M
  after_tick r' x = record { core = r'.core; bus = tick r'.bus (instructed x).world }

  same_pc : (r : Marks M) (x x' : Point) → Alike r x x' → is_known (mark_at r.core PC) ≡ true → pc_of x'.core ≡ pc_of x.core
  same_pc r x x' alike k = known_same p (mark_at r.core PC) (pc_of x.core) (pc_of x'.core) (alike.core.regs PC) k

  same_op : (r : Marks M) (x x' : Point) (place : Option (ℕ × ℕ)) → Alike r x x' → OpensIn place (state_op x.world.state) →
      OpensIn place (state_op x'.world.state)
  same_op r x x' place alike opens = subst (λ (o : Option (ℕ × ℕ)). OpensIn place o) (sym (operations r.bus x.world x'.world alike.bus)) opens

  one_more : (back : ℕ) (place : Option (ℕ × ℕ)) (x x' : Point) (r r' : Marks M) → StepGoes back place x r r' → Alike r x x' →
      GoesOn back place x' × Alike (after_tick r' x) (ticked (instructed x)) (ticked (instructed x'))
  unfolding ticked
  one_more back place x x' r r' step alike =
      let next : (step_end x' ≡ end.Went) × Alike r' (instructed x) (instructed x') =
      point_follows r r' x x' step.half step.second alike step.fetches step.marked step.goes.went in (
        record {
          went = next.0;
          away = ap (λ (n : ℕ). nat_eq n back) (same_pc r x x' alike step.counter) ∙ step.goes.away;
          before = same_op r x x' place alike step.goes.before;
          within = same_op r' (instructed x) (instructed x') place next.1 step.goes.within;
        },
        record { core = next.1.core; bus = ticks r'.bus _ _ next.1.bus },
      )

  pub run_none : (back : ℕ) (place : Option (ℕ × ℕ)) (first first' : Point) (r : Marks M) → Alike r first first' →
      RunAgrees p Agrees back place first first' 0 r
  run_none back place first first' r alike = record {
    now = rw (whole_none first, whole_none first') alike;
    on = λ j below. absurd (omega (arith, below));
  }

  pub run_more : (back : ℕ) (place : Option (ℕ × ℕ)) (first first' : Point) (n : ℕ) (r r' : Marks M) → StepGoes back place (whole first n) r r' →
      RunAgrees p Agrees back place first first' n r → RunAgrees p Agrees back place first first' (n + 1) (after_tick r' (whole first n))
  run_more back place first first' n r r' step so_far =
      let next : GoesOn back place (whole first' n) × Alike (after_tick r' (whole first n)) (ticked (instructed (whole first n)))
      (ticked (instructed (whole first' n))) =
      one_more back place (whole first n) (whole first' n) r r' step so_far.now in
      record {
        now = rw (whole_on first n, whole_on first' n) next.1;
        on = λ j below. ⊎_elim
            (λ (early : j < n). so_far.on j early)
            (λ (late : n ≤ j). let last : n ≡ j = omega (arith, late, below) in subst (λ (i : ℕ). GoesOn back place (whole first' i)) last next.0)
            (cases_lt j n);
      }

  pub call_done : (setup : Setup) (w w' : World) (q q' : Request) (place : Option (ℕ × ℕ)) (n : ℕ) (r : Marks M) → n ≤ fuel_of setup q'.call →
      is_known (mark_at r.core PC) ≡ true → is_known (mark_at r.core 0) ≡ true → pc_of (whole (first_point setup w q) n).core ≡ setup.layout.return_at
      → slice_index (whole (first_point setup w q) n).core.regs 0 ≡ success_of q'.call (length q'.bytes)
      → state_op (whole (first_point setup w q) n).world.state ≡ None →
      RunAgrees p Agrees setup.layout.return_at place (first_point setup w q) (first_point setup w' q') n r
      → IsDone setup w' q' place (whole (first_point setup w' q') n).world
  call_done setup w w' q q' place n r within counter value here success idle run =
      let x : Point = whole (first_point setup w q) n in
      let x' : Point = whole (first_point setup w' q') n in
      run_done setup w' q' place n within run.on (same_pc r x x' run.now counter ∙ here)
      (known_same p (mark_at r.core 0) (slice_index x.core.regs 0) (slice_index x'.core.regs 0) (run.now.core.regs 0) value ∙ success)
      (operations r.bus x.world x'.world run.now.bus ∙ idle)
