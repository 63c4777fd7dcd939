-- The machines of a target's regions.
use Rattle.std.proofs.Common.{◌≡◌, ◌∙◌, ℕ, Bool, IsTrue, is_some, List, [], replicate, Option, Some, None, IsSomeAnd}
use Rattle.std.proofs.Common.{IfSome, refl, sym, ap, subst}
use Rattle.target_core.specs.World.{World}
use Rattle.target_core.specs.Units.{state_reset}
use Rattle.algo_calls.specs.declared.calls_in.CallsIn.{CallsIn}
use Rattle.algo_calls.specs.Setups.{Setup}
use Rattle.algo_calls.specs.Calls.{after_reset, broken_off}
use Rattle.algo_calls.specs.Shows.{setup_at, world_at, Fits}
use Rattle.flash_session.specs.declared.cursor.Cursor.TheVariants as at
use Rattle.flash_session.specs.declared.cursor.Place.TheVariants as place
use Rattle.flash_session.specs.declared.phase.Phase.TheVariants as stage
use Rattle.flash_session.specs.declared.region_plan.SessionWork.{SessionWork}
use Rattle.flash_session.specs.declared.player.Player.{Player}
use Rattle.flash_session.specs.Fit.{AreTwins}
use Rattle.flash_session.specs.Regions.{RegionIndex, First, Second, other_than, IsThere}
use Rattle.flash_session.specs.Rest.{Legs}
use Rattle.flash_session.specs.Script.{leg}
use Rattle.flash_session.specs.Targets.{work_in, later_leg, of_region, calls_on, setup_on, map_of, map_on, setup_now, has_second, legs_for}
use Rattle.flash_session.specs.Turned.{IsExchanged, TurnsTo, Restarts}
use Rattle.flash_session.specs.Turns.{SameTarget}
use Rattle.flash_session.proofs.StepLemmas.{moved_region, setup_moved}

-- ---- what stays when the calls change

pub same_here : (g : Player) → SameTarget g g
same_here g = record { setups = λ r. refl; maps = λ r. refl; work = refl; window = refl }

pub same_then : (a b c : Player) → SameTarget a b → SameTarget b c → SameTarget a c
same_then a b c one two = record {
  setups = λ r. two.setups r ∙ one.setups r;
  maps = λ r. two.maps r ∙ one.maps r;
  work = two.work ∙ one.work;
  window =
      two.window ∙ one.window;
}

-- what the calls of a region show stays, if the calls that moved last show the same as before
of_same : {A : Type 0} (f : CallsIn → A) (r moved : RegionIndex) (here there : CallsIn) (other : Option CallsIn) → f there ≡ f here
    → f (of_region r moved there other) ≡ f (of_region r moved here other)
of_same f First First here there other e = e
of_same f Second Second here there other e = e
of_same f First Second here there None e = e
of_same f First Second here there (Some o) e = refl
of_same f Second First here there None e = e
of_same f Second First here there (Some o) e = refl

shown_same : {A : Type 0} (f : CallsIn → A) (a b : Player) → f b.calls ≡ f a.calls → b.moved ≡ a.moved → b.other ≡ a.other → (r : RegionIndex)
    → f (calls_on b r) ≡ f (calls_on a r)
shown_same f a b shown moved other r =
    ap (λ (m : RegionIndex). f (of_region r m b.calls b.other)) moved ∙ ap (λ (o : Option CallsIn). f (of_region r a.moved b.calls o)) other
    ∙ of_same f r a.moved a.calls b.calls a.other shown

-- only the calls that moved last changed, and not their setup or map; so the script stays
pub same_by : (a b : Player) → setup_at b.calls ≡ setup_at a.calls → map_of b.calls ≡ map_of a.calls → b.moved ≡ a.moved → b.other ≡ a.other → b.work ≡ a.work
    → b.window ≡ a.window → SameTarget a b
same_by a b setup map moved other work window = record {
  setups = shown_same (λ c. setup_at c) a b setup moved other;
  maps = shown_same (λ c. map_of c) a b map moved other;
  work = work;
  window = window;
}

pub has_same : (a b : Player) → SameTarget a b → has_second b ≡ has_second a
has_same a b same = ap (λ (t : SessionWork). is_some t.second) same.work

twins_by : (a b : Player) → SameTarget a b → AreTwins a → is_some b.other ≡ has_second b → IsThere (has_second b) b.moved → AreTwins b
twins_by a b same is there moved = record {
  base = ap (λ (s : Setup). s.layout.return_at) (same.setups Second) ∙ is.base ∙ sym (ap (λ (s : Setup). s.layout.return_at) (same.setups First));
  size = ap (λ (s : Setup). s.ram_size) (same.setups Second) ∙ is.size ∙ sym (ap (λ (s : Setup). s.ram_size) (same.setups First));
  map = same.maps Second ∙ is.map ∙ sym (same.maps First);
  there = there;
  moved = moved;
}

pub twins_still : (a b : Player) → SameTarget a b → b.moved ≡ a.moved → b.other ≡ a.other → AreTwins a → AreTwins b
twins_still a b same moved other is =
    twins_by a b same is (ap (λ (o : Option CallsIn). is_some o) other ∙ is.there ∙ sym (has_same a b same))
    (subst (λ (r : RegionIndex). IsThere (has_second b) r) (sym moved) (subst (λ (h : Bool). IsThere h a.moved) (sym (has_same a b same)) is.moved))

pub legs_same : (a b : Player) → SameTarget a b → (goal : List ℕ) → legs_for b goal ≡ legs_for a goal
legs_same a b same goal =
    let legs = λ (t : SessionWork) (x y : Setup). let l : Legs = record { first = leg x (work_in t.first goal); second = later_leg y t.second goal } in l in
    ap (λ (t : SessionWork). legs t (setup_on b First) (setup_on b Second)) same.work
    ∙ ap (λ (x : Setup). legs a.work x (setup_on b Second)) (same.setups First)
    ∙ ap (λ (y : Setup). legs a.work (setup_on a First) y) (same.setups Second)

-- ---- both regions share a RAM size, a base and a map

-- what is equal for the two regions is equal for any two of them
alike : {A : Type 0} (f : RegionIndex → A) → f Second ≡ f First → (p q : RegionIndex) → f p ≡ f q
alike f same First First = refl
alike f same Second Second = refl
alike f same Second First = same
alike f same First Second = sym same

pub map_moved : (g : Player) (r : RegionIndex) → g.moved ≡ r → map_on g r ≡ map_of g.calls
map_moved g r is = ap (λ (m : RegionIndex). map_of (of_region r m g.calls g.other)) is ∙ ap (λ (c : CallsIn). map_of c) (moved_region r g.calls g.other)

-- the RAM's size is the same in the calls of each region
pub size_on : (g : Player) → AreTwins g → (r : RegionIndex) → (setup_on g r).ram_size ≡ (setup_now g).ram_size
size_on g twins r = alike (λ (q : RegionIndex). (setup_on g q).ram_size) twins.size r g.moved ∙ ap (λ (s : Setup). s.ram_size) (setup_moved g g.moved refl)

-- a reset leaves the same with each setup that has a RAM of this size
pub reset_same : (x y : Setup) (w : World) (operation : Option (ℕ × ℕ)) (torn : List ℕ) → x.ram_size ≡ y.ram_size
    → after_reset x w operation torn ≡ after_reset y w operation torn
unfolding after_reset
reset_same x y w operation torn same =
    ap (λ (n : ℕ). let r : World = record w { ram = replicate n 0; state = state_reset w.map; cells = broken_off operation torn w.cells } in r) same

-- a restarted machine has the world that a reset left on another one of the same board, over the cells that the reset left
fresh_is : (x y : Setup) (v w : World) (operation : Option (ℕ × ℕ)) (torn : List ℕ) → x.ram_size ≡ y.ram_size → v.ram_base ≡ w.ram_base
    → v.map ≡ w.map → v.cells ≡ (after_reset y w operation torn).cells
    → after_reset x v None [] ≡ after_reset y w operation torn
unfolding after_reset
fresh_is x y v w operation torn size base map cells = rw (size, base, map, cells) refl

base_left : (x : Setup) (w : World) (operation : Option (ℕ × ℕ)) (torn : List ℕ) → (after_reset x w operation torn).ram_base ≡ w.ram_base
unfolding after_reset
base_left x w operation torn = refl

map_left : (x : Setup) (w : World) (operation : Option (ℕ × ℕ)) (torn : List ℕ) → (after_reset x w operation torn).map ≡ w.map
unfolding after_reset
map_left x w operation torn = refl

-- ---- the machine of the other region

other_region : (moved : RegionIndex) (here c : CallsIn) → of_region (other_than moved) moved here (Some c) ≡ c
other_region First here c = refl
other_region Second here c = refl

other_calls : (g : Player) (c : CallsIn) → g.other ≡ Some c → calls_on g (other_than g.moved) ≡ c
other_calls g c is = ap (λ (o : Option CallsIn). of_region (other_than g.moved) g.moved g.calls o) is ∙ other_region g.moved g.calls c

turned_same : {A : Type 0} (f : CallsIn → A) (r moved : RegionIndex) (here c new : CallsIn) → f new ≡ f c
    → f (of_region r (other_than moved) new (Some here)) ≡ f (of_region r moved here (Some c))
turned_same f First First here c new e = refl
turned_same f First Second here c new e = e
turned_same f Second First here c new e = e
turned_same f Second Second here c new e = refl

-- if a board has both regions, it has each
any_there : (has : Bool) (r : RegionIndex) → IsTrue has → IsThere has r
any_there has First both = tt
any_there has Second both = both

some_true : (o : Option CallsIn) (c : CallsIn) → o ≡ Some c → IsTrue (is_some o)
some_true o c is = ap (λ (x : Option CallsIn). is_some x) is

module _ (a : Player) (arena : List (List ℕ)) (b : Player) (arena' : List (List ℕ)) (c : CallsIn) (is : a.other ≡ Some c) (twins : AreTwins a)
    (turned : IsExchanged a arena b arena' c) where
  moved_is : b.moved ≡ other_than a.moved
  moved_is = ap (λ (g : Player). g.moved) turned.rest

  other_is : b.other ≡ Some a.calls
  other_is = ap (λ (g : Player). g.other) turned.rest

  exchanged_calls : {A : Type 0} (f : CallsIn → A) → f b.calls ≡ f c → (r : RegionIndex) → f (calls_on b r) ≡ f (calls_on a r)
  exchanged_calls f same r =
      ap (λ (m : RegionIndex). f (of_region r m b.calls b.other)) moved_is
      ∙ ap (λ (o : Option CallsIn). f (of_region r (other_than a.moved) b.calls o)) other_is
      ∙ turned_same f r a.moved a.calls c b.calls same ∙ sym (ap (λ (o : Option CallsIn). f (of_region r a.moved a.calls o)) is)

  exchanged_same : SameTarget a b
  exchanged_same = record {
    setups = exchanged_calls (λ k. setup_at k) turned.setup;
    maps = exchanged_calls (λ k. map_of k) turned.map;
    work = ap (λ (g : Player). g.work) turned.rest;
    window = ap (λ (g : Player). g.window) turned.rest;
  }

  calls_are : calls_on a (other_than a.moved) ≡ c
  calls_are = other_calls a c is

  has : IsTrue (has_second a)
  has = sym twins.there ∙ some_true a.other c is

  size_is : (setup_at c).ram_size ≡ (setup_now a).ram_size
  size_is = sym (ap (λ (k : CallsIn). (setup_at k).ram_size) calls_are) ∙ size_on a twins (other_than a.moved)

  map_is : map_of c ≡ map_of a.calls
  map_is = sym (ap (λ (k : CallsIn). map_of k) calls_are) ∙ alike (λ (r : RegionIndex). map_on a r) twins.map (other_than a.moved) a.moved
      ∙ map_moved a a.moved refl

  base_is : c.machine.ram_base ≡ a.calls.machine.ram_base
  base_is =
      sym c.laid_out.base ∙ sym (ap (λ (k : CallsIn). (setup_at k).layout.return_at) calls_are)
      ∙ alike (λ (r : RegionIndex). (setup_on a r).layout.return_at) twins.base (other_than a.moved) a.moved
      ∙ ap (λ (s : Setup). s.layout.return_at) (setup_moved a a.moved refl) ∙ a.calls.laid_out.base

  pub exchanged : (r : RegionIndex) → other_than a.moved ≡ r → TurnsTo r a arena b arena'
  exchanged r other = record {
    same = exchanged_same;
    twins = twins_by a b exchanged_same twins (ap (λ (o : Option CallsIn). is_some o) other_is ∙ sym (has_same a b exchanged_same ∙ has))
        (any_there (has_second b) b.moved (has_same a b exchanged_same ∙ has));
    moved = moved_is ∙ other;
    rest = turned.rest ∙ ap (λ (o : Option CallsIn). record a { calls = b.calls; other = o; moved = other_than a.moved }) (sym other_is)
        ∙ ap (λ (m : RegionIndex). record a { calls = b.calls; other = b.other; moved = m }) (sym moved_is);
    stands = λ w operation torn cells left.
        turned.starts cells
        ∙ fresh_is (setup_at c) (setup_now a) (world_at c arena a.window cells) w operation torn size_is
        (base_is ∙ ap (λ (x : World). x.ram_base) left ∙ base_left (setup_now a) w operation torn)
        (map_is ∙ ap (λ (x : World). x.map) left ∙ map_left (setup_now a) w operation torn)
        (ap (λ (x : World). x.cells) left);
    map = turned.map ∙ map_is;
    only = turned.only;
    fits = turned.fits;
  }

pub turned_to : (o : Option CallsIn) (a : Player) (arena : List (List ℕ)) (b : Player) (arena' : List (List ℕ)) (r : RegionIndex) → a.other ≡ o
    → IsSomeAnd o (IsExchanged a arena b arena') → AreTwins a → other_than a.moved ≡ r
    → TurnsTo r a arena b arena'
turned_to None a arena b arena' r is turned twins other = absurd turned
turned_to (Some c) a arena b arena' r is turned twins other = exchanged a arena b arena' c is twins turned r other

-- ---- a player that restarts

module _ (a : Player) (mid : CallsIn) (setup : setup_at mid ≡ setup_at a.calls) (map : map_of mid ≡ map_of a.calls) where
  abbrev at_hand : Player
  at_hand = record a { calls = mid }

  hand_same : SameTarget a at_hand
  hand_same = same_by a at_hand setup map refl refl refl refl

  pub twins_kept : AreTwins a → AreTwins at_hand
  twins_kept twins = twins_still a at_hand hand_same refl refl twins

pub restarts_by : (a : Player) (arena : List (List ℕ)) (mid : CallsIn) (arena1 : List (List ℕ)) (b : Player) (arena2 : List (List ℕ))
    → setup_at mid ≡ setup_at a.calls → map_of mid ≡ map_of a.calls
    → ((cells : List ℕ) → world_at mid arena1 a.window cells ≡ after_reset (setup_at a.calls) (world_at a.calls arena a.window cells) None [])
    → TurnsTo First (record a { calls = mid }) arena1 b arena2 → Restarts a arena (record b { made = 0; place = place.At (at.Begin First stage.Erase) }) arena2
restarts_by a arena mid arena1 b arena2 setup map world turns =
    let both = same_then a (record a { calls = mid }) b (hand_same a mid setup map) turns.same in
    let window_is : b.window ≡ a.window = ap (λ (g : Player). g.window) turns.rest in
    record {
      same = record { setups = both.setups; maps = both.maps; work = both.work; window = both.window };
      twins = record { base = turns.twins.base; size = turns.twins.size; map = turns.twins.map; there = turns.twins.there; moved = turns.twins.moved };
      moved = turns.moved;
      made = refl;
      place = refl;
      page = ap (λ (g : Player). g.page) turns.rest;
      starts = λ cells.
          ap (λ (w : ℕ). world_at b.calls arena2 w cells) window_is
          ∙ turns.stands (world_at a.calls arena a.window cells) None [] cells
          (world cells ∙ ap (λ (y : Setup). after_reset y (world_at a.calls arena a.window cells) None []) (sym setup))
          ∙ ap (λ (y : Setup). after_reset y (world_at a.calls arena a.window cells) None []) setup;
      fits = subst (λ (w : ℕ). Fits b.calls arena2 w) (sym window_is) turns.fits;
    }

-- the machine of the other region fits the same window
pub other_fits : (g : Player) (arena : List (List ℕ)) (o : Option CallsIn) → g.other ≡ o → AreTwins g → Fits g.calls arena g.window
    → IfSome o (λ c. Fits c arena g.window)
other_fits g arena None is twins fits = tt
other_fits g arena (Some c) is twins fits =
    (fits.0, fits.1 ∙ sym (sym (ap (λ (k : CallsIn). (setup_at k).ram_size) (other_calls g c is)) ∙ size_on g twins (other_than g.moved)))
