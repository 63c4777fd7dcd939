-- Moves that are all made, and change only cells at some places, whatever a stop of the power leaves.
-- `Serving` shows it for the phases of a region, and `LegLemmas` for a whole script.
use Rattle.std.proofs.Common.{◌≡◌, ◌<◌, ◌≤◌, ◌+◌, ◌-◌, ◌∙◌, ⊎_elim, ℕ, List, [], ◌∷◌, ◌++◌, map, length, replicate, get_or, Option, Some, None, Result, Ok}
use Rattle.std.proofs.Common.{refl, sym, ap, subst, arith}
use Rattle.std.proofs.lemmas.List.{get_or-take, get_or-drop, map-append}
use Rattle.std.proofs.lemmas.Bool.{cases_lt}
use Rattle.bench_model.specs.State.{SameOutside}
use Rattle.flash_layout.specs.Maps.{FlashMap}
use Rattle.page_geometry.specs.Geometry.{Geometry, IsGeometry}
use Rattle.target_core.specs.World.{World}
use Rattle.target_core.specs.Units.{state_op, state_reset}
use Rattle.target_core.proofs.UnitLemmas.{fresh_idle}
use Rattle.target_core.specs.Path.{point}
use Rattle.target_core.specs.Runs.{IsLeftOn}
use Rattle.algo_calls.specs.declared.call.Call.TheVariants.{Init, UnInit}
use Rattle.algo_calls.specs.Ends.{is_done}
use Rattle.algo_calls.specs.Setups.{Setup}
use Rattle.algo_calls.specs.Frames.{asked, loaded, after_load, path_of, end_of, after}
use Rattle.algo_calls.specs.Calls.{after_reset, broken_off}
use Rattle.algo_calls.specs.Duties.{Site, Duty, Quiet, request_of, place_of, Keeps, KeepAll}
use Rattle.algo_calls.proofs.IdealLemmas.{does_same, does_length}
use Rattle.algo_calls.proofs.KeptLemmas.{kept_local, board_in, after_board}
use Rattle.flash_session.specs.Moves.{Move, Reset, Load, Make, Stand, stand_at, Failure, failure, run, IsPointOf, IsWithin, StopLeaves, reset_to}
use Rattle.flash_session.specs.Script.{phase}
use Rattle.flash_session.specs.Local.{SameBut}
use Rattle.flash_session.proofs.LocalLemmas.{but_none, but_then}
use Rattle.flash_session.proofs.Runs.{run_none, run_one, run_then, within_split, one_point, no_point}
use Rattle.flash_session.proofs.Playing.{done_run}
use Rattle.flash_session.proofs.Lists.{phase_none, phase_is}
use Rattle.flash_session.proofs.Members.{move_of}
use Rattle.flash_session.proofs.Leading.{IsAmong, Led, led_then, led_quiet}

-- ---- contents that are equal except at some places

-- P holds of all places of a range of cells
abbrev pub PlaceIn : (ℕ → Type 0) → Option (ℕ × ℕ) → Type 0
PlaceIn P None = Unit {0}
PlaceIn P (Some place) = (i : ℕ) → place.0 ≤ i → i < place.0 + place.1 → P i

abbrev pub PlacesIn : (ℕ → Type 0) → Site → List Duty → Type 0
PlacesIn P site [] = Unit {0}
PlacesIn P site (d ∷ rest) = PlaceIn P (place_of site d) × PlacesIn P site rest

but_outside : (P : ℕ → Type 0) (o : Option (ℕ × ℕ)) (x y : List ℕ) → PlaceIn P o → SameOutside o x y → SameBut P x y
but_outside P None x y covers same = but_none P x y same
but_outside P (Some o) x y covers same = record {
  long = same.0;
  same = λ i out. ⊎_elim
      (λ (before : i < o.0). sym (get_or-take o.0 y i 0 before) ∙ ap (λ (l : List ℕ). get_or l i 0) same.1 ∙ get_or-take o.0 x i 0 before)
      (λ (from : o.0 ≤ i). ⊎_elim
      (λ (under : i < o.0 + o.1). absurd (out (covers i from under)))
      (λ (past : o.0 + o.1 ≤ i).
      let j : ℕ = i - (o.0 + o.1) in
      let e : o.0 + o.1 + j ≡ i = omega (arith, past) in
      ap (λ (k : ℕ). get_or y k 0) (sym e) ∙ sym (get_or-drop (o.0 + o.1) y j 0) ∙ ap (λ (l : List ℕ). get_or l j 0) same.2 ∙ get_or-drop (o.0 + o.1) x j 0
      ∙ ap (λ (k : ℕ). get_or x k 0) e)
      (cases_lt i (o.0 + o.1)))
      (cases_lt i o.0);
}

outside_here : (o : Option (ℕ × ℕ)) (x : List ℕ) → SameOutside o x x
outside_here None x = refl
outside_here (Some place) x = (refl, refl, refl)

-- ---- moves

-- a stop within these moves leaves the cells outside these places as in the old contents
abbrev pub Local : (ℕ → Type 0) → Stand → List Move → List ℕ → Type 0
Local P a moves old = (w : World) → IsWithin a moves w → (c : List ℕ) → StopLeaves w c → SameBut P old c

-- The moves are all made, and then the cells are these and no operation is open. Neither then nor after a stop does a cell outside these places differ from the
-- old contents.
pub record Passes (P : ℕ → Type 0) (a : Stand) (moves : List Move) (cells old : List ℕ) : Type 0 where
  pub last : Stand
  pub ran : run a moves ≡ Ok last
  pub idle : state_op last.world.state ≡ None
  pub reached : last.world.cells ≡ cells
  pub board : board_in last.world ≡ board_in a.world
  pub same : SameBut P old cells
  pub local : Local P a moves old

-- ---- a reset and a load with no operation open, and a phase

-- the target of a board after a reset over these cells, and with the algorithm loaded
abbrev blank : Setup → ℕ → FlashMap → List ℕ → World
blank s base map cells = record { ram_base = base; ram = replicate s.ram_size 0; map = map; state = state_reset map; cells = cells }

reset_is : (s : Setup) (w : World) (torn : List ℕ) → state_op w.state ≡ None → reset_to s w torn ≡ blank s w.ram_base w.map w.cells
unfolding after_reset
reset_is s w torn idle =
    ap (λ (o : Option (ℕ × ℕ)). let x : World = record {
      ram_base = w.ram_base;
      ram = replicate s.ram_size 0;
      map = w.map;
      state = state_reset w.map;
      cells =
          broken_off o torn w.cells;
    } in x) idle

-- the target after a reset and a load
abbrev pub begun : Setup → World → World
begun s w = record { ram_base = w.ram_base; ram = loaded s; map = w.map; state = state_reset w.map; cells = w.cells }

-- a phase: Init, the calls, UnInit
abbrev pub whole_phase : ℕ → List Duty → List Duty
whole_phase kind works = Quiet (asked (Init kind) []) ∷ (works ++ Quiet (asked (UnInit kind) []) ∷ [])

phase_list : (s : Setup) (l : Geometry) (kind : ℕ) (torn : List ℕ) (moves : List Move) (works : List Duty) → (moves ≡ [] → ⊥) → moves ≡ map (move_of s l) works
    → phase s kind torn moves ≡ (Reset s torn ∷ Load s ∷ []) ++ map (move_of s l) (whole_phase kind works)
phase_list s l kind torn moves works some is =
    phase_is s kind torn moves some
    ∙ ap (λ (m : List Move). Reset s torn ∷ Load s ∷ Make s (Init kind) [] ∷ (m ++ (Make s (UnInit kind) [] ∷ []))) is
    ∙ ap (λ (m : List Move). Reset s torn ∷ Load s ∷ Make s (Init kind) [] ∷ m) (sym (map-append (move_of s l) works (Quiet (asked (UnInit kind) []) ∷ [])))

places_then : (P : ℕ → Type 0) (site : Site) (xs ys : List Duty) → PlacesIn P site xs → PlacesIn P site ys → PlacesIn P site (xs ++ ys)
places_then P site [] ys one two = two
places_then P site (d ∷ xs) ys one two = (one.0, places_then P site xs ys one.1 two)

module _ (P : ℕ → Type 0) (old : List ℕ) where
  pub passes_none : (a : Stand) (moves : List Move) (cells : List ℕ) → moves ≡ [] → state_op a.world.state ≡ None → a.world.cells ≡ cells → SameBut P old cells
      → Passes P a moves cells old
  passes_none a moves cells none idle is same = record {
    last = a;
    ran = ap (λ (m : List Move). run a m) none ∙ run_none a;
    idle = idle;
    reached = is;
    board = refl;
    same = same;
    local = λ w at c left. absurd (no_point a w (subst (λ (m : List Move). IsWithin a m w) none at));
  }

  local_then : (a b : Stand) (xs ys : List Move) → run a xs ≡ Ok b → Local P a xs old → Local P b ys old → Local P a (xs ++ ys) old
  local_then a b xs ys ran one two w at c left = ⊎_elim (λ (in_first : IsWithin a xs w). one w in_first c left)
      (λ (in_second : IsWithin b ys w). two w in_second c left) (within_split a b xs ys w ran at)

  -- moves that were made up to a target, followed by moves that pass from there
  passes_on : (a b : Stand) (xs ys : List Move) (cells : List ℕ) → run a xs ≡ Ok b → board_in b.world ≡ board_in a.world → Local P a xs old
      → Passes P b ys cells old → Passes P a (xs ++ ys) cells old
  passes_on a b xs ys cells ran board one two = record {
    last = two.last;
    ran = run_then a b xs ys (Ok two.last) ran two.ran;
    idle = two.idle;
    reached = two.reached;
    board = two.board ∙ board;
    same = two.same;
    local = local_then a b xs ys ran one two.local;
  }

  pub passes_then : (a : Stand) (xs ys : List Move) (mid cells : List ℕ) → Passes P a xs mid old
      → ((b : Stand) → state_op b.world.state ≡ None → b.world.cells ≡ mid → board_in b.world ≡ board_in a.world → Passes P b ys cells old)
      → Passes P a (xs ++ ys) cells old
  passes_then a xs ys mid cells one next = passes_on a one.last xs ys cells one.ran one.board one.local (next one.last one.idle one.reached one.board)

  -- ---- a call that keeps its duty

  still_among : (site : Site) (x y : List ℕ) → IsAmong site x → length y ≡ length x → IsAmong site y
  still_among site x y among same = omega (arith, among, same)

  call_runs : (s : Setup) (site : Site) (a : Stand) (d : Duty) → Keeps s site a.world d
      → run a (move_of s site.layout d ∷ []) ≡ Ok (stand_at (a.calls + 1) (after s a.world (request_of s site.layout d)))
  call_runs s site a d keeps =
      let r = request_of s site.layout d in
      let b = stand_at (a.calls + 1) (after s a.world r) in
      run_one a (move_of s site.layout d)
      ∙ done_run (is_done (end_of s a.world r)) b b (failure (a.calls + 1) r.call (end_of s a.world r) (after s a.world r)) (ap is_done keeps.done) refl

  call_local : (s : Setup) (site : Site) (a : Stand) (d : Duty) → IsGeometry site.layout → IsAmong site a.world.cells → PlaceIn P (place_of site d)
      → SameBut P old a.world.cells → Keeps s site a.world d → Local P a (move_of s site.layout d ∷ []) old
  call_local s site a d good long covers start keeps w at c left =
      let r = request_of s site.layout d in
      let of : IsPointOf (path_of s a.world r) w = one_point a (move_of s site.layout d) w at in
      let on : IsLeftOn (path_of s a.world r) c = record { number = of.number; within = of.within; left = subst (λ (x : World). StopLeaves x c) of.is left } in
      but_then P old a.world.cells c start (but_outside P (place_of site d) a.world.cells c covers (kept_local s site a.world d good long keeps c on))

  call_same : (s : Setup) (site : Site) (a : Stand) (d : Duty) → IsGeometry site.layout → IsAmong site a.world.cells → PlaceIn P (place_of site d)
      → SameBut P old a.world.cells → Keeps s site a.world d
      → SameBut P old (after s a.world (request_of s site.layout d)).cells
  unfolding after
  call_same s site a d good long covers start keeps =
      let r = request_of s site.layout d in
      let last : World = (point (path_of s a.world r).first (path_of s a.world r).last).world in
      let on : IsLeftOn (path_of s a.world r) last.cells = record {
        number = (path_of s a.world r).last;
        within = omega arith;
        left =
            outside_here (state_op last.state) last.cells;
      } in
      but_then P old a.world.cells last.cells start (but_outside P (place_of site d) a.world.cells last.cells covers
      (kept_local s site a.world d good long keeps last.cells on))

  -- calls in turn that keep their duties pass, where the ideal device leads to some contents
  pub passes_duties : (s : Setup) (site : Site) (good : IsGeometry site.layout) (ds : List Duty) (a : Stand) (want : List ℕ) → IsAmong site a.world.cells
      → state_op a.world.state ≡ None → KeepAll s site a.world ds → Led s site a.world.cells ds want
      → PlacesIn P site ds → SameBut P old a.world.cells → Passes P a (map (move_of s site.layout) ds) want old
  unfolding KeepAll Led
  passes_duties s site good [] a want long idle keep led covers start = passes_none a [] want refl idle led (subst (λ (c : List ℕ). SameBut P old c) led start)
  passes_duties s site good (d ∷ rest) a want long idle keep led covers start =
      let r = request_of s site.layout d in
      let b = stand_at (a.calls + 1) (after s a.world r) in
      let is : led.0 ≡ b.world.cells = does_same s site d a.world.cells led.0 b.world.cells led.1 keep.0.leaves in
      passes_on a b (move_of s site.layout d ∷ []) (map (move_of s site.layout) rest) want (call_runs s site a d keep.0) (after_board s a.world r)
      (call_local s site a d good long covers.0 start keep.0)
      (passes_duties s site good rest b want (still_among site a.world.cells b.world.cells long
      (does_length s site d a.world.cells b.world.cells keep.0.leaves)) keep.0.idle keep.1 (subst (λ (c : List ℕ). Led s site c rest want) is led.3)
      covers.1
      (call_same s site a d good long covers.0 start keep.0))

  -- ---- resets and loads with no operation open

  pub idle_local : (v w : World) (c : List ℕ) → state_op v.state ≡ None → SameBut P old v.cells → w ≡ v → StopLeaves w c → SameBut P old c
  idle_local v w c idle start is left =
      let at : SameOutside (state_op v.state) v.cells c = subst (λ (x : World). StopLeaves x c) is left in
      let same : c ≡ v.cells = subst (λ (o : Option (ℕ × ℕ)). SameOutside o v.cells c) idle at in
      subst (λ (x : List ℕ). SameBut P old x) (sym same) start

  pub passes_reset : (s : Setup) (a : Stand) (torn : List ℕ) → state_op a.world.state ≡ None → SameBut P old a.world.cells
      → Passes P a (Reset s torn ∷ []) a.world.cells old
  passes_reset s a torn idle start =
      let b = stand_at a.calls (blank s a.world.ram_base a.world.map a.world.cells) in
      record {
        last = b;
        ran = run_one a (Reset s torn) ∙ ap (λ (w : World). let x : Result Stand Failure = Ok (stand_at a.calls w) in x) (reset_is s a.world torn idle);
        idle = fresh_idle a.world.map.kind;
        reached = refl;
        board = refl;
        same = start;
        local = λ w at c left. idle_local b.world w c (fresh_idle a.world.map.kind) start (one_point a (Reset s torn) w at ∙ reset_is s a.world torn idle) left;
      }

  passes_load : (s : Setup) (a : Stand) → state_op a.world.state ≡ None → SameBut P old a.world.cells → Passes P a (Load s ∷ []) a.world.cells old
  passes_load s a idle start = record {
    last = stand_at a.calls (after_load s a.world);
    ran = run_one a (Load s);
    idle = idle;
    reached = refl;
    board = refl;
    same = start;
    local = λ w at c left. idle_local (after_load s a.world) w c idle start (one_point a (Load s) w at) left;
  }

  -- ---- a phase

  opens : (s : Setup) (a : Stand) (torn : List ℕ) → state_op a.world.state ≡ None → run a (Reset s torn ∷ Load s ∷ []) ≡ Ok (stand_at a.calls (begun s a.world))
  opens s a torn idle =
      let b = stand_at a.calls (blank s a.world.ram_base a.world.map a.world.cells) in
      run_then a b (Reset s torn ∷ []) (Load s ∷ []) (Ok (stand_at a.calls (begun s a.world)))
      (run_one a (Reset s torn) ∙ ap (λ (w : World). let x : Result Stand Failure = Ok (stand_at a.calls w) in x) (reset_is s a.world torn idle))
      (run_one b (Load s))

  opening_local : (s : Setup) (a : Stand) (torn : List ℕ) → state_op a.world.state ≡ None → SameBut P old a.world.cells
      → Local P a (Reset s torn ∷ Load s ∷ []) old
  opening_local s a torn idle start =
      (passes_then a (Reset s torn ∷ []) (Load s ∷ []) a.world.cells a.world.cells (passes_reset s a torn idle start)
      (λ b quiet is board. subst (λ (c : List ℕ). Passes P b (Load s ∷ []) c old) is
      (passes_load s b quiet (subst (λ (c : List ℕ). SameBut P old c) (sym is) start)))).local

  pub passes_phase : (s : Setup) (site : Site) (good : IsGeometry site.layout) (kind : ℕ) (torn : List ℕ) (moves : List Move) (works : List Duty) (a : Stand)
      (want : List ℕ) → moves ≡ map (move_of s site.layout) works
      → IsAmong site a.world.cells → state_op a.world.state ≡ None → ((works ≡ [] → ⊥) → KeepAll s site (begun s a.world) (whole_phase kind works))
      → Led s site a.world.cells works want
      → PlacesIn P site works → SameBut P old a.world.cells → Passes P a (phase s kind torn moves) want old
  unfolding Led
  passes_phase s site good kind torn moves [] a want is long idle keep led covers start =
      passes_none a (phase s kind torn moves) want (phase_none s kind torn moves is) idle led (subst (λ (c : List ℕ). SameBut P old c) led start)
  passes_phase s site good kind torn moves (x ∷ rest) a want is long idle keep led covers start =
      let works : List Duty = x ∷ rest in
      let some : moves ≡ [] → ⊥ = λ e. (cc) in
      let all : Led s site a.world.cells (whole_phase kind works) want = (
        a.world.cells,
        refl,
        tt,
        led_then s site works (Quiet (asked (UnInit kind) []) ∷ []) a.world.cells want want led
            (led_quiet s site (asked (UnInit kind) []) want),
      ) in
      subst (λ (m : List Move). Passes P a m want old) (sym (phase_list s site.layout kind torn moves works some is))
      (passes_on a (stand_at a.calls (begun s a.world)) (Reset s torn ∷ Load s ∷ []) (map (move_of s site.layout) (whole_phase kind works)) want
      (opens s a torn idle) refl (opening_local s a torn idle start)
      (passes_duties s site good (whole_phase kind works) (stand_at a.calls (begun s a.world)) want long (fresh_idle a.world.map.kind) (keep (λ e. cc)) all
      (tt, places_then P site works (Quiet (asked (UnInit kind) []) ∷ []) covers (tt, tt)) start))
