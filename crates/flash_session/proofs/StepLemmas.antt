-- The next move of a script.
use Rattle.std.proofs.Common.{◌≡◌, ◌+◌, ◌∙◌, ℕ, Bool, true, false, cond, IsTrue, is_some, unwrap_or, Option, Some, None, List, [], ◌∷◌, length}
use Rattle.std.proofs.Common.{refl, sym, ap, subst, arith}
use Rattle.algo_calls.specs.declared.call.Call.{Call}
use Rattle.algo_calls.specs.declared.call.Call.TheVariants as call
use Rattle.algo_calls.specs.Setups.{Setup}
use Rattle.algo_calls.specs.Shows.{setup_at, MayAsk}
use Rattle.algo_calls.specs.declared.calls_in.CallsIn.{CallsIn}
use Rattle.flash_session.specs.Moves.{Move, Reset, Load, Make}
use Rattle.flash_session.specs.Regions.{RegionIndex, First, Second, IsThere, is_last}
use Rattle.flash_session.specs.Script.{Broken, Leg, leg, kind_of}
use Rattle.flash_session.specs.declared.phase.Phase.{Phase}
use Rattle.flash_session.specs.declared.phase.Phase.TheVariants as stage
use Rattle.flash_session.specs.declared.cursor.Cursor.TheVariants as at
use Rattle.flash_session.specs.declared.cursor.Step.{Step}
use Rattle.flash_session.specs.declared.cursor.Step.TheVariants as step
use Rattle.flash_session.specs.declared.cursor.Item.{Item}
use Rattle.flash_session.specs.declared.region_plan.RegionPlan.{RegionPlan}
use Rattle.flash_session.specs.declared.player.Player.{Player}
use Rattle.flash_session.specs.Fit.{IsRegionPlanOn, IsScripted}
use Rattle.flash_session.specs.Items.{calls_on_phase}
use Rattle.flash_session.specs.Rest.{calls_from, phase_calls, Legs, leg_at, later_than, rest_of, with_torn, with_last, after, after_region}
use Rattle.flash_session.specs.Steps.{bytes_at, IsAsked, IsNext, IsItem, IsCursor, IsStep, IsStepBehind, IsPhaseFrom, has_phase}
use Rattle.flash_session.specs.Targets.{of_region, setup_on, setup_now, region_in, work_in, later_leg, legs_for, has_second, size_for}
use Rattle.flash_session.proofs.ItemLemmas.{no_bytes}
use Rattle.flash_session.proofs.PartLemmas.{part_at}
use Rattle.flash_session.proofs.RestLemmas.{calls_all, begin_is, skip_is, behind_is, init_is, call_is, uninit_is}

-- ---- what is to be done in a region

-- the calls of the region that moved last
pub moved_region : (moved : RegionIndex) (here : CallsIn) (other : Option CallsIn) → of_region moved moved here other ≡ here
moved_region First here other = refl
moved_region Second here other = refl

pub setup_moved : (g : Player) (r : RegionIndex) → g.moved ≡ r → setup_on g r ≡ setup_now g
setup_moved g r is = ap (λ (m : RegionIndex). setup_at (of_region r m g.calls g.other)) is ∙ ap (λ (c : CallsIn). setup_at c) (moved_region r g.calls g.other)

second_leg : (o : Option RegionPlan) (s : Setup) (goal : List ℕ) (m : Leg) (p : RegionPlan) → IsTrue (is_some o)
    → unwrap_or (later_leg s o goal) m ≡ leg s (work_in (unwrap_or o p) goal)
second_leg None s goal m p there = cc
second_leg (Some q) s goal m p there = refl

second_there : (o : Option RegionPlan) (s : Setup) (goal : List ℕ) → is_some (later_leg s o goal) ≡ is_some o
second_there None s goal = refl
second_there (Some q) s goal = refl

after_cursor : (has : Bool) (moved r : RegionIndex) (p : Phase) → IsThere has r → IsCursor has moved (after has r p)
after_cursor has moved r stage.Erase there = there
after_cursor has moved r stage.Program there = there
after_cursor has moved Second stage.Verify there = tt
after_cursor false moved First stage.Verify there = tt
after_cursor true moved First stage.Verify there = refl

pub not_last : (has : Bool) (r : RegionIndex) → is_last has r ≡ false → (r ≡ First) × IsTrue has
not_last false First is = cc
not_last true First is = (refl, refl)
not_last has Second is = cc

module _ (g : Player) where
  abbrev legs : List ℕ → Legs
  legs goal = legs_for g goal

  pub leg_is : (r : RegionIndex) → IsThere (has_second g) r → (goal : List ℕ) → leg_at (legs goal) r ≡ leg (setup_on g r) (work_in (region_in g.work r) goal)
  leg_is First there goal = refl
  leg_is Second there goal = second_leg g.work.second (setup_on g Second) goal (legs goal).first g.work.first there

  has_is : (goal : List ℕ) → is_some (legs goal).second ≡ has_second g
  has_is goal = second_there g.work.second (setup_on g Second) goal

  pub part_on : IsScripted g → (r : RegionIndex) → IsThere (has_second g) r → IsRegionPlanOn (setup_on g r) (size_for g) (length g.page.items)
      (region_in g.work r)
  part_on scripted First there = scripted.first
  part_on scripted Second there = scripted.second there

  -- ---- whether there are calls

  nonempty : (m : Move) (l : List Move) → m ∷ l ≡ [] → ⊥
  nonempty m l is = cc

  pub any_item : (r : RegionIndex) (p : Phase) → IsThere (has_second g) r → (o : Option Item)
      → IsItem (setup_on g r) (region_in g.work r) (calls_on_phase p (setup_on g r) (region_in g.work r)) 0 o → has_phase g r p (is_some o)
  any_item r p there None is = λ goal.
      subst (λ (m : Leg). phase_calls m.setup m.region_work p ≡ []) (sym (leg_is r there goal))
      (sym (calls_all (setup_on g r) (work_in (region_in g.work r) goal) p) ∙ is goal)
  any_item r p there (Some item) is = λ goal.
      subst (λ (m : Leg). phase_calls m.setup m.region_work p ≡ [] → ⊥) (sym (leg_is r there goal))
      (λ none. nonempty (Make (setup_on g r) item.call (bytes_at (work_in (region_in g.work r) goal).goal item.from item.len))
      (calls_on_phase p (setup_on g r) (region_in g.work r) goal (item.index + 1))
      (sym (is.moves goal) ∙ calls_all (setup_on g r) (work_in (region_in g.work r) goal) p ∙ none))

  -- ---- the first phase that has calls

  pub phase_here : (r : RegionIndex) (p : Phase) → has_phase g r p true → IsPhaseFrom g r p (Some p)
  phase_here r p some = (λ goal b. refl, some)

  pub phase_none : (r : RegionIndex) → has_phase g r stage.Verify false → IsPhaseFrom g r stage.Verify None
  phase_none r none = λ goal b. skip_is (legs goal) r stage.Verify (none goal) b

  phase_on : (r : RegionIndex) (p q : Phase) → ((goal : List ℕ) (b : Broken) → rest_of (legs goal) (at.Begin r p) b ≡ rest_of (legs goal) (at.Begin r q) b)
      → (o : Option Phase) → IsPhaseFrom g r q o → IsPhaseFrom g r p o
  phase_on r p q same None is = λ goal b. same goal b ∙ is goal b
  phase_on r p q same (Some x) is = (λ goal b. same goal b ∙ is.0 goal b, is.1)

  pub erase_on : (r : RegionIndex) → has_phase g r stage.Erase false → (o : Option Phase) → IsPhaseFrom g r stage.Program o → IsPhaseFrom g r stage.Erase o
  erase_on r none o is = phase_on r stage.Erase stage.Program (λ goal b. skip_is (legs goal) r stage.Erase (none goal) b) o is

  pub program_on : (r : RegionIndex) → has_phase g r stage.Program false → (o : Option Phase) → IsPhaseFrom g r stage.Verify o → IsPhaseFrom g r stage.Program o
  program_on r none o is = phase_on r stage.Program stage.Verify (λ goal b. skip_is (legs goal) r stage.Program (none goal) b) o is

  -- ---- where a phase begins

  begins : (r : RegionIndex) (p : Phase) → IsThere (has_second g) r → has_phase g r p true → (goal : List ℕ) (b : Broken) (torn : List ℕ)
      → rest_of (legs goal) (at.Begin r p) (with_torn r p torn b) ≡ Reset (setup_on g r) torn ∷ Load (setup_on g r) ∷ rest_of (legs goal) (at.Init r p) b
  begins r p there some goal b torn = begin_is (legs goal) r p (some goal) b torn
      ∙ ap (λ (m : Leg). Reset m.setup torn ∷ Load m.setup ∷ rest_of (legs goal) (at.Init r p) b) (leg_is r there goal)

  second_behind : IsTrue (has_second g) → (goal : List ℕ) (b : Broken) → later_than (legs goal) First b ≡ rest_of (legs goal) (at.Begin Second stage.Erase) b
  second_behind has goal b = behind_is (legs goal) First b ∙ ap (λ (h : Bool). rest_of (legs goal) (after_region h First) b) (has_is goal ∙ has)

  pub second_begins : (p : Phase) → IsTrue (has_second g) → IsPhaseFrom g Second stage.Erase (Some p) → IsStepBehind g First (step.Begin Second p)
  second_begins p has is = (
    λ goal b torn. second_behind has goal (with_torn Second p torn b) ∙ is.0 goal (with_torn Second p torn b)
        ∙ begins Second p has is.1 goal b torn,
    has,
  )

  pub second_ends : IsTrue (has_second g) → IsPhaseFrom g Second stage.Erase None → IsStepBehind g First step.Last
  second_ends has is = λ goal b torn. second_behind has goal (with_last torn b) ∙ is goal (with_last torn b)

  pub behind_last : (r : RegionIndex) → is_last (has_second g) r ≡ true → IsStepBehind g r step.Last
  behind_last r last = λ goal b torn. behind_is (legs goal) r (with_last torn b)
      ∙ ap (λ (h : Bool). rest_of (legs goal) (after_region h r) (with_last torn b)) (has_is goal)
      ∙ ap (λ (d : Bool). rest_of (legs goal) (cond d at.Last (at.Begin Second stage.Erase)) (with_last torn b)) last

  pub step_begins : (r : RegionIndex) (p q : Phase) → IsThere (has_second g) r → IsPhaseFrom g r p (Some q) → IsStep g (at.Begin r p) (step.Begin r q)
  step_begins r p q there is = (λ goal b torn. is.0 goal (with_torn r q torn b) ∙ begins r q there is.1 goal b torn, there)

  pub step_behind : (r : RegionIndex) (p : Phase) (x : Step) → IsPhaseFrom g r p None → IsStepBehind g r x → IsStep g (at.Begin r p) x
  step_behind r p (step.Begin q k) none is = (λ goal b torn. none goal (with_torn q k torn b) ∙ is.0 goal b torn, is.1)
  step_behind r p (step.Call c from len next) none is = (λ goal b. none goal b ∙ is.0 goal b, is.1, is.2)
  step_behind r p step.Last none is = λ goal b torn. none goal (with_last torn b) ∙ is goal b torn

  -- ---- a call

  setup_here : (r : RegionIndex) → g.moved ≡ r → IsThere (has_second g) r → (goal : List ℕ) → (leg_at (legs goal) r).setup ≡ setup_now g
  setup_here r moved there goal = ap (λ (m : Leg). m.setup) (leg_is r there goal) ∙ setup_moved g r moved

  without : (c : Call) → ((bytes : List ℕ) → bytes ≡ [] → MayAsk (setup_now g) c bytes) → IsAsked g c 0 0
  without c may = record { within = omega arith; fits = omega arith; may = λ bytes none. may bytes (no_bytes bytes none) }

  pub step_init : (r : RegionIndex) (p : Phase) → IsCursor (has_second g) g.moved (at.Init r p)
      → IsStep g (at.Init r p) (step.Call (call.Init (kind_of p)) 0 0 (at.Calls r p 0))
  step_init r p is = (
    λ goal b. init_is (legs goal) r p b ∙ ap (λ (s : Setup). Make s (call.Init (kind_of p)) [] ∷ rest_of (legs goal) (at.Calls r p 0) b)
        (setup_here r is.0 is.1 goal),
    without (call.Init (kind_of p)) (λ bytes none. none),
    is,
  )

  pub step_uninit : (r : RegionIndex) (p : Phase) (index : ℕ) → IsCursor (has_second g) g.moved (at.Calls r p index)
      → ((goal : List ℕ) → calls_on_phase p (setup_on g r) (region_in g.work r) goal index ≡ [])
      → IsStep g (at.Calls r p index) (step.Call (call.UnInit (kind_of p)) 0 0 (after (has_second g) r p))
  step_uninit r p index is none = (
    λ goal b.
        uninit_is (legs goal) r p index (subst (λ (m : Leg). calls_from m.setup m.region_work p index ≡ []) (sym (leg_is r is.1 goal)) (none goal)) b
        ∙ ap (λ (s : Setup). Make s (call.UnInit (kind_of p)) [] ∷ rest_of (legs goal) (after (is_some (legs goal).second) r p) b) (setup_here r is.0 is.1 goal)
        ∙ ap (λ (h : Bool). Make (setup_now g) (call.UnInit (kind_of p)) [] ∷ rest_of (legs goal) (after h r p) b) (has_is goal),
    without (call.UnInit (kind_of p)) (λ bytes none. none),
    after_cursor (has_second g) g.moved r p is.1,
  )

  pub step_item : IsScripted g → (r : RegionIndex) (p : Phase) (index : ℕ) (item : Item) → IsCursor (has_second g) g.moved (at.Calls r p index)
      → IsNext (setup_on g r) (region_in g.work r) (calls_on_phase p (setup_on g r) (region_in g.work r)) index item
      → IsStep g (at.Calls r p index) (step.Call item.call ((region_in g.work r).start + item.from) item.len (at.Calls r p (item.index + 1)))
  step_item scripted r p index item is next =
      let on = part_on scripted r is.1 in
      let there = region_in g.work r in
      let moves = λ (goal : List ℕ).
      next.moves goal
      ∙ ap (λ (s : Setup). Make s item.call (bytes_at (work_in there goal).goal item.from item.len) ∷ calls_on_phase p (setup_on g r) there goal
      (item.index + 1)) (setup_moved g r is.0)
      ∙ ap (λ (l : List ℕ). Make (setup_now g) item.call l ∷ calls_on_phase p (setup_on g r) there goal (item.index + 1))
      (sym (part_at there.start there.geometry.size item.from item.len goal next.within)) in (
        λ goal b. call_is (legs goal) r p index (item.index + 1) (Make (setup_now g) item.call (bytes_at goal (there.start + item.from) item.len))
            (subst (λ (m : Leg). calls_from m.setup m.region_work p index ≡ Make (setup_now g) item.call (bytes_at goal (there.start + item.from) item.len) ∷
            calls_from m.setup m.region_work p (item.index + 1)) (sym (leg_is r is.1 goal)) (moves goal)) b,
        record {
          within = omega (arith, on.range, next.within);
          fits = omega (arith, on.buffer, next.fits);
          may = λ bytes long. subst (λ (s : Setup). MayAsk s item.call bytes) (setup_moved g r is.0) (next.may bytes long);
        },
        is,
      )
