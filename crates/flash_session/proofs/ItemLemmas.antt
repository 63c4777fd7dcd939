-- The next call of a phase in a region.
use Rattle.std.proofs.Common.{◌≡◌, ◌<◌, ◌≤◌, ◌+◌, ◌-◌, ◌^◌, ◌∙◌, ℕ, Bool, true, false, cond, IsTrue, is_some, Option, Some, None, List, [], ◌∷◌, ◌++◌, length}
use Rattle.std.proofs.Common.{take, drop, get_or, nat_eq, refl, sym, ap, subst, arith}
use Rattle.flm_descriptor.specs.Shape.{range_at}
use Rattle.page_geometry.specs.Geometry.{IsAt, IsGeometry}
use Rattle.algo_calls.specs.declared.call.Call.{Call}
use Rattle.algo_calls.specs.declared.call.Call.TheVariants as call
use Rattle.algo_calls.specs.Setups.{Setup}
use Rattle.algo_calls.specs.Shows.{MayAsk}
use Rattle.flash_session.specs.Moves.{Move, Make}
use Rattle.flash_session.specs.Script.{RegionWork, IsRegionWork, sector_moves, page_at, page_call, bytes_of, has_verify}
use Rattle.flash_session.proofs.Lists.{one_of}
use Rattle.flash_session.specs.declared.phase.Phase.TheVariants as stage
use Rattle.flash_session.specs.declared.cursor.Item.{Item}
use Rattle.flash_session.specs.declared.region_plan.RegionPlan.{RegionPlan}
use Rattle.flash_session.specs.Items.{sectors_on, pages_on, calls_on_phase}
use Rattle.flash_session.specs.Rest.{chip_from}
use Rattle.flash_session.specs.Steps.{bytes_at, IsNext, IsItem}
use Rattle.flash_session.specs.Targets.{planned_in, work_in}
use Rattle.flash_session.proofs.RestLemmas.{from_take}

pub no_bytes : (bytes : List ℕ) → length bytes ≡ 0 → bytes ≡ []
no_bytes [] none = refl
no_bytes (x ∷ bytes) none = absurd (omega (arith, none))

module _ (s : Setup) (g : RegionPlan) where
  abbrev t : List ℕ → RegionWork
  t goal = work_in g goal

  -- ---- the next sector

  pub sector_next : (index k place len : ℕ) → k < length g.geometry.sectors → get_or g.plan.made.sectors k false ≡ true
      → ((goal : List ℕ) → sectors_on s g goal index ≡ sectors_on s g goal k)
      → IsAt (range_at g.geometry.sectors k) place len → k + 1 < 2 ^ 32
      → IsNext s g (sectors_on s g) index (record { call = call.EraseSector (g.base + place); from = 0; len = 0; index = k })
  sector_next index k place len less is same range room =
      let m : Move = Make s (call.EraseSector (g.base + (range_at g.geometry.sectors k).start)) [] in
      record {
        moves = λ goal. same goal ∙ from_take (sector_moves s (planned_in g)) (length g.geometry.sectors) k less
            ∙ ap (λ (l : List Move). l ++ sectors_on s g goal (k + 1)) (one_of (get_or g.plan.made.sectors k false) m is)
            ∙ ap (λ (i : ℕ). Make s (call.EraseSector (g.base + i)) [] ∷ sectors_on s g goal (k + 1)) (sym range.0);
        within = omega arith;
        fits = omega arith;
        may = λ bytes none. no_bytes bytes none;
        room = room;
      }

  -- ---- the next page

  may_page : (v : Bool) (place : ℕ) (bytes : List ℕ) → (IsTrue v → IsTrue (is_some s.algorithm.entries.verify)) → length bytes ≤ s.algorithm.device.page
      → MayAsk s (page_call v place) bytes
  may_page true place bytes entry fit = (entry refl, fit)
  may_page false place bytes entry fit = fit

  pub page_next : (v : Bool) (index k place len : ℕ) (c : Call) → c ≡ page_call v (g.base + place) → IsRegionWork s (planned_in g)
      → (IsTrue v → IsTrue (is_some s.algorithm.entries.verify)) → IsGeometry g.geometry
      → k < length g.geometry.pages → get_or g.plan.made.pages k false ≡ true → ((goal : List ℕ) → pages_on v s g goal index ≡ pages_on v s g goal k)
      → IsAt (range_at g.geometry.pages k) place len → k + 1 < 2 ^ 32
      → IsNext s g (pages_on v s g) index (record { call = c; from = place; len = len; index = k })
  page_next v index k place len c call_is region_work entry lawful less is same range room =
      let r = range_at g.geometry.pages k in
      let m = λ (goal : List ℕ). Make s (page_call v (g.base + r.start)) (bytes_of r (t goal).goal) in
      let span : r.stop - r.start ≡ len = omega (arith, range.0, range.1) in
      let within : place + len ≤ g.geometry.size = omega (arith, range.1, lawful.pages_part.below k less) in
      let fits : len ≤ s.algorithm.device.page = omega (arith, range.0, range.1, region_work.pages k less) in
      let bytes = λ (goal : List ℕ). ap (λ (n : ℕ). take n (drop r.start (t goal).goal)) span ∙ ap (λ (n : ℕ). take len (drop n (t goal).goal)) (sym range.0) in
      record {
        moves = λ goal. same goal ∙ from_take (page_at v s (t goal)) (length g.geometry.pages) k less
            ∙ ap (λ (l : List Move). l ++ pages_on v s g goal (k + 1)) (one_of (get_or g.plan.made.pages k false) (m goal) is)
            ∙ ap (λ (i : ℕ). Make s (page_call v (g.base + i)) (bytes_of r (t goal).goal) ∷ pages_on v s g goal (k + 1)) (sym range.0)
            ∙ ap (λ (l : List ℕ). Make s (page_call v (g.base + place)) l ∷ pages_on v s g goal (k + 1)) (bytes goal)
            ∙ ap (λ (x : Call). Make s x (bytes_at (t goal).goal place len) ∷ pages_on v s g goal (k + 1)) (sym call_is);
        within = within;
        fits = fits;
        may = λ bytes long. subst (λ (x : Call). MayAsk s x bytes) (sym call_is) (may_page v (g.base + place) bytes entry (omega (arith, fits, long)));
        room = room;
      }

  -- ---- the calls of a phase

  same_calls : (f h : List ℕ → ℕ → List Move) (index : ℕ) (o : Option Item) → ((goal : List ℕ) (k : ℕ) → h goal k ≡ f goal k) → IsItem s g f index o
      → IsItem s g h index o
  same_calls f h index None same is = λ goal. same goal index ∙ is goal
  same_calls f h index (Some item) same is = record {
    moves = λ goal. same goal index ∙ is.moves goal ∙ ap (λ (l : List Move). Make s item.call (bytes_at (t goal).goal item.from item.len) ∷ l)
        (sym (same goal (item.index + 1)));
    within = is.within;
    fits = is.fits;
    may = is.may;
    room = is.room;
  }

  when : (d : Bool) (x y : List Move) → d ≡ true → cond d x y ≡ x
  when true x y is = refl
  when false x y is = cc

  unless : (d : Bool) (x y : List Move) → d ≡ false → cond d x y ≡ y
  unless true x y is = cc
  unless false x y is = refl

  pub by_sectors : (index : ℕ) (o : Option Item) → g.plan.made.chip ≡ false → IsItem s g (sectors_on s g) index o
      → IsItem s g (calls_on_phase stage.Erase s g) index o
  by_sectors index o other is = same_calls (sectors_on s g) (calls_on_phase stage.Erase s g) index o
      (λ goal k. unless g.plan.made.chip (chip_from s k) (sectors_on s g goal k) other) is

  by_chip : g.plan.made.chip ≡ true → (goal : List ℕ) (k : ℕ) → calls_on_phase stage.Erase s g goal k ≡ chip_from s k
  by_chip chip goal k = when g.plan.made.chip (chip_from s k) (sectors_on s g goal k) chip

  pub chip_next : (index : ℕ) → g.plan.made.chip ≡ true → IsRegionWork s (planned_in g) → index ≡ 0
      → IsNext s g (calls_on_phase stage.Erase s g) index (record { call = call.EraseChip; from = 0; len = 0; index = index })
  chip_next index chip region_work first = record {
    moves = λ goal. by_chip chip goal index ∙ ap (chip_from s) first
        ∙ ap (λ (l : List Move). Make s call.EraseChip [] ∷ l) (sym (by_chip chip goal (index + 1) ∙ ap (λ (k : ℕ). chip_from s (k + 1)) first));
    within = omega arith;
    fits = omega arith;
    may = λ bytes none. (no_bytes bytes none, region_work.chip chip);
    room = omega (arith, first);
  }

  chip_past : (k : ℕ) → nat_eq k 0 ≡ false → chip_from s k ≡ []
  chip_past k other = unless (nat_eq k 0) (Make s call.EraseChip [] ∷ []) [] other

  pub chip_done : (index : ℕ) → g.plan.made.chip ≡ true → nat_eq index 0 ≡ false → (goal : List ℕ) → calls_on_phase stage.Erase s g goal index ≡ []
  chip_done index chip other goal = by_chip chip goal index ∙ chip_past index other

  pub by_verify : (index : ℕ) (o : Option Item) → has_verify s ≡ true → IsItem s g (pages_on true s g) index o
      → IsItem s g (calls_on_phase stage.Verify s g) index o
  by_verify index o has is = same_calls (pages_on true s g) (calls_on_phase stage.Verify s g) index o
      (λ goal k. when (has_verify s) (pages_on true s g goal k) [] has) is

  pub no_verify : (index : ℕ) → has_verify s ≡ false → (goal : List ℕ) → calls_on_phase stage.Verify s g goal index ≡ []
  no_verify index other goal = unless (has_verify s) (pages_on true s g goal index) [] other
