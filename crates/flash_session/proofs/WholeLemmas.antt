-- A whole script, played by turns up to the close.
use Rattle.std.proofs.Common.{◌≡◌, ◌+◌, ◌∙◌, ◌↔◌, ℕ, Bool, true, false, IsTrue, List, [], ◌++◌, Option, Some, None, Ok, refl, sym, ap, subst}
use Rattle.std.proofs.Common.{append_assoc}
use Rattle.std.proofs.lemmas.List.{append-nil}
use Rattle.bench_model.specs.History.{left, Leaves}
use Rattle.bench_model.specs.Counted.{is_store_fault, is_device_fault, IsCounted}
use Rattle.bench_model.specs.State.{BenchState, file_half, cells_half, SameOutside}
use Rattle.bench_model.proofs.Moments.{leaves_as, leaves_then, adds_nothing_here}
use Rattle.job_text.specs.declared.job.Job.{Job}
use Rattle.flash_session.specs.declared.session.SessionEnd.{SessionEnd}
use Rattle.flash_session.specs.declared.session.SessionEnd.TheVariants as end
use Rattle.flash_session.specs.Moves.{Move, Stand, stand_at, run, IsLeftOnWay}
use Rattle.flash_session.specs.Outcome.{EndsIn, Follows, IsReached}
use Rattle.flash_session.specs.Regions.{RegionIndex, First}
use Rattle.flash_session.specs.Script.{Leg, Broken, script}
use Rattle.flash_session.proofs.Playing.{left_more, file_then}
use Rattle.flash_session.specs.declared.phase.Phase.TheVariants as stage
use Rattle.flash_session.specs.declared.cursor.Cursor.TheVariants as at
use Rattle.flash_session.specs.declared.cursor.Place.{Place}
use Rattle.flash_session.specs.declared.cursor.Place.TheVariants as place
use Rattle.flash_session.specs.declared.target_end.TargetEnd.{TargetEnd}
use Rattle.flash_session.specs.declared.target_end.TargetEnd.TheVariants as ended
use Rattle.flash_session.specs.declared.player.Player.{Player}
use Rattle.flash_session.specs.Fit.{IsPlace, Fit}
use Rattle.flash_session.specs.Rest.{Legs, all_legs, unbroken}
use Rattle.flash_session.specs.Stands.{OnWay, none, HasEnded, Stands, StandsOn}
use Rattle.flash_session.specs.Targets.{setup_now, legs_for, point_for, goal_for, size_for, has_second}
use Rattle.flash_session.specs.Turns.{IsUnended, IsDone, GoesOn, Turns, FileTurn, KeepsFile, place_fault}
use Rattle.flash_session.specs.Whole.{at_close, IsPlaying, IsPlayed, IsEndOf, IsStop, Played}
use Rattle.flash_session.proofs.AloneLemmas.{goes_here, stands_first}
use Rattle.bench_model.proofs.CountLemmas.{counted_then, none_counted}
use Rattle.flash_session.proofs.FitLemmas.{goal_same}
use Rattle.flash_session.proofs.MachineLemmas.{same_here, same_then, legs_same}

-- ---- the place of a target

pub is_close : (p : Place) → at_close p ≡ true → p ≡ place.Closing
is_close place.Closing is = refl
is_close p is = cc

pub is_playing : (p : Place) → at_close p ≡ false → IsUnended p → IsPlaying p
is_playing place.Closing is going = cc
is_playing (place.Ended e) is going = absurd going
is_playing p is going = tt

pub goes_where : (p : Place) (o : Option SessionEnd) → o ≡ None → IsPlayed p → IsStop p o → IsPlaying p
goes_where place.Closing o is played stop = subst (λ (x : Option SessionEnd). IsStop place.Closing x) is stop
goes_where (place.Ended e) o is played stop = subst (λ (x : Option SessionEnd). IsStop (place.Ended e) x) is stop
goes_where p o is played stop = tt

unended : (p : Place) → IsPlaying p → IsUnended p
unended (place.Ended e) playing = playing
unended p playing = tt

quiet : (p : Place) → IsPlaying p → place_fault p ≡ None
quiet place.Closing playing = absurd playing
quiet (place.Ended e) playing = absurd playing
quiet p playing = refl

read_by : (tells : Bool) (p q : Place) (s t : BenchState) → IsPlaying p → FileTurn tells p q s t → KeepsFile tells q s t
read_by tells place.Closing q s t playing turn = absurd playing
read_by tells (place.Ended e) q s t playing turn = absurd playing
read_by tells p q s t playing turn = turn

before_close : (tells has : Bool) (moved : RegionIndex) (p : Place) (size : ℕ) (b : BenchState) → IsPlace tells has moved p size b → (IsDone p → ⊥) → IsPlayed p
before_close tells has moved (place.At c) size b is other = tt
before_close tells has moved (place.In call len left next) size b is other = tt
before_close tells has moved (place.Comparing at) size b is other = tt
before_close tells has moved place.Closing size b is other = tt
before_close tells has moved (place.Ended ended.Done) size b is other = other tt
before_close tells has moved (place.Ended (ended.Open fault)) size b is other = absurd is
before_close tells has moved (place.Ended (ended.Survey fault)) size b is other = absurd is
before_close tells has moved (place.Ended (ended.CallFailed number call e)) size b is other = tt
before_close tells has moved (place.Ended (ended.Mismatch d)) size b is other = tt
before_close tells has moved (place.Ended ended.StoreFault) size b is other = tt
before_close tells has moved (place.Ended ended.DeviceFault) size b is other = tt

-- ---- turns

-- one more turn continues the moves
pub goes_then : (tells : Bool) (told : IsTrue tells) (a : Stand) (way : List Move) (goal : List ℕ) (x y : Player) (arena arena' : List (List ℕ))
    (s t u : BenchState) → GoesOn a way goal x arena s t → Turns tells goal x arena t y arena' u → GoesOn a way goal y arena' s u
goes_then tells told a way goal x y arena arena' s t u one two =
    let then_ : GoesOn a (way ++ one.more) goal y arena' t u = two.told told a (way ++ one.more) one.stands in
    let whole : List Move = (way ++ one.more) ++ then_.more in
    let assoc : whole ≡ way ++ (one.more ++ then_.more) = append_assoc way one.more then_.more in
    record {
      more = one.more ++ then_.more;
      stands = subst (λ (l : List Move). StandsOn a l goal y arena' u) assoc then_.stands;
      moments = subst (λ (l : List Move). Leaves (cells_half s) (cells_half u) (IsLeftOnWay a l)) assoc
          (leaves_then (IsLeftOnWay a whole) (leaves_as (IsLeftOnWay a (way ++ one.more)) (IsLeftOnWay a whole) (left_more a (way ++ one.more) then_.more)
          one.moments) then_.moments);
    }

-- no turn so far
pub played_here : (tells : Bool) (goal : List ℕ) (x : Player) (arena : List (List ℕ)) (s : BenchState)
    → (IsTrue tells → (c : List ℕ) → left (cells_half s) c ↔ SameOutside s.operation s.cells c) → Fit tells x arena s → IsPlaying x.place
    → Played tells goal x arena s x arena s
played_here tells goal x arena s law fit playing =
    let still = quiet x.place playing in
    record {
      goes = λ told a way stands. goes_here tells told a way goal x arena s (unended x.place playing) fit (law told) stands;
      same = same_here x;
      page = refl;
      fit = fit;
      before = before_close tells (has_second x) x.moved x.place (size_for x) s fit.place (λ done. absurd (not_done x.place playing done));
      count = refl;
      file = record { file = λ told. refl; moments = adds_nothing_here (file_half s) };
      device = subst (λ (b : Bool). IsCounted s.device_faults s.device_faults b) (sym (ap is_device_fault still))
          (none_counted s.device_faults s.device_faults refl);
      store = subst (λ (b : Bool). IsCounted s.store_faults s.store_faults b) (sym (ap is_store_fault still)) (none_counted s.store_faults s.store_faults refl);
    }
  where
    not_done : (p : Place) → IsPlaying p → IsDone p → ⊥
    not_done (place.At c) going done = done
    not_done (place.In call len left next) going done = done
    not_done (place.Comparing at) going done = done
    not_done place.Closing going done = done
    not_done (place.Ended e) going done = absurd going

played_then : (tells : Bool) (goal : List ℕ) (x y z : Player) (arena arena1 arena2 : List (List ℕ)) (s t u : BenchState)
    → Played tells goal x arena s y arena1 t → IsPlaying y.place → Turns tells goal y arena1 t z arena2 u → Played tells goal x arena s z arena2 u
played_then tells goal x y z arena arena1 arena2 s t u so_far playing turn =
    let read = read_by tells y.place z.place t u playing turn.file in
    let still = quiet y.place playing in
    record {
      goes = λ told a way stands. goes_then tells told a way goal y z arena1 arena2 s t u (so_far.goes told a way stands) turn;
      same = same_then x y z so_far.same turn.same;
      page = turn.page ∙ so_far.page;
      fit = turn.fit;
      before = before_close tells (has_second z) z.moved z.place (size_for z) u turn.fit.place read.other;
      count = turn.count ∙ so_far.count;
      file = file_then so_far.file read.read;
      device = counted_then s.device_faults t.device_faults u.device_faults (is_device_fault (place_fault y.place)) (is_device_fault (place_fault z.place))
          (ap is_device_fault still) so_far.device turn.device;
      store = counted_then s.store_faults t.store_faults u.store_faults (is_store_fault (place_fault y.place)) (is_store_fault (place_fault z.place))
          (ap is_store_fault still) so_far.store turn.store;
    }

-- a turn towards another goal that is the same wherever the bench tells its contents
pub turns_to : (tells : Bool) (goal wanted : List ℕ) (x y : Player) (arena arena' : List (List ℕ)) (s t : BenchState) → (IsTrue tells → goal ≡ wanted)
    → Turns tells goal x arena s y arena' t → Turns tells wanted x arena s y arena' t
turns_to tells goal wanted x y arena arena' s t same turns = record {
  told = λ told. subst (λ (w : List ℕ). (a : Stand) (way : List Move) → StandsOn a way w x arena s → GoesOn a way w y arena' s t) (same told) (turns.told told);
  same = turns.same;
  only = turns.only;
  page = turns.page;
  fit = turns.fit;
  nearer = turns.nearer;
  count = turns.count;
  file = turns.file;
  device = turns.device;
  store = turns.store;
}

pub played_on : (tells : Bool) (j : Job) (x y z : Player) (arena arena1 arena2 : List (List ℕ)) (s t u : BenchState)
    → Played tells (goal_for j x s.file) x arena s y arena1 t → IsPlaying y.place → Turns tells (goal_for j y t.file) y arena1 t z arena2 u
    → Played tells (goal_for j x s.file) x arena s z arena2 u
played_on tells j x y z arena arena1 arena2 s t u so_far playing turn =
    played_then tells (goal_for j x s.file) x y z arena arena1 arena2 s t u so_far playing
    (turns_to tells (goal_for j y t.file) (goal_for j x s.file) y z arena1 arena2 t u
    (λ told. goal_same j x y t.file so_far.same ∙ ap (goal_for j x) (so_far.file.file told)) turn)

-- ---- the end of the turns

module _ (legs : List Leg) (goal : List ℕ) (a : Stand) (way : List Move) (start now : BenchState)
    (moments : Leaves (cells_half start) (cells_half now) (IsLeftOnWay a way)) where
  follows_by : (e : SessionEnd) (broken : Broken) (later : List Move) → script legs broken ≡ way ++ later → EndsIn a (script legs broken) goal e now
      → Follows legs goal a e start now
  follows_by e broken later whole ends = record {
    broken = broken;
    ends = ends;
    moments = subst (λ (l : List Move). Leaves (cells_half start) (cells_half now) (IsLeftOnWay a l)) (sym whole)
        (leaves_as (IsLeftOnWay a way) (IsLeftOnWay a (way ++ later)) (left_more a way later) moments);
  }

  -- the script was broken off, a call of it failed, or a cell differs from the goal
  follows_ended : (t : TargetEnd) (e : SessionEnd) → IsEndOf t e → HasEnded legs goal a way t now → Follows legs goal a e start now
  follows_ended (ended.CallFailed number call x) e is has = subst (λ (f : SessionEnd). Follows legs goal a f start now) (sym is)
      (follows_by (end.CallFailed number call x) has.broken has.later has.whole has.ends)
  follows_ended (ended.Mismatch d) e is has = subst (λ (f : SessionEnd). Follows legs goal a f start now) (sym is)
      (follows_by (end.Mismatch d) has.broken has.later has.whole has.ends)
  follows_ended ended.StoreFault e is has = subst (λ (f : SessionEnd). Follows legs goal a f start now) (sym is)
      (follows_by end.StoreFault has.broken has.later has.whole has.ends)
  follows_ended ended.DeviceFault e is has = subst (λ (f : SessionEnd). Follows legs goal a f start now) (sym is)
      (follows_by end.DeviceFault has.broken has.later has.whole has.ends)
  follows_ended t e is has = absurd is

-- all calls were done, and the cells are the goal
follows_closing : (l : Legs) (goal : List ℕ) (a : Stand) (way : List Move) (start now : BenchState) (made : ℕ) (b : Stand)
    → Leaves (cells_half start) (cells_half now) (IsLeftOnWay a way) → OnWay l way none → run a way ≡ Ok b
    → b.world.cells ≡ now.cells → now.cells ≡ goal → (e : SessionEnd) → IsReached e → Follows (all_legs l) goal a e start now
follows_closing l goal a way start now made b moments on ran cells same (end.Reached r) is =
    let whole : script (all_legs l) (on unbroken).0 ≡ way ++ [] = (on unbroken).1 in
    follows_by (all_legs l) goal a way start now moments (end.Reached r) (on unbroken).0 [] whole
    (record { last = b; ran = subst (λ (m : List Move). run a m ≡ Ok b) (sym (append-nil way) ∙ sym whole) ran; leaves = cells }, same)
follows_closing l goal a way start now made b moments on ran cells same x is = absurd is

module _ (tells : Bool) (told : IsTrue tells) (goal : List ℕ) (a : Stand) (way : List Move) (y : Player) (arena : List (List ℕ)) (start now : BenchState)
    (moments : Leaves (cells_half start) (cells_half now) (IsLeftOnWay a way)) (stands : StandsOn a way goal y arena now) where
  stops_at : (p : Place) (o : Option SessionEnd) (e : SessionEnd) → y.place ≡ p → IsStop p o → o ≡ Some e
      → Follows (all_legs (legs_for y goal)) goal a e start now
  stops_at (place.At c) o e at stop is = absurd (subst (λ (x : Option SessionEnd). IsStop (place.At c) x) is stop)
  stops_at (place.In call len left next) o e at stop is = absurd (subst (λ (x : Option SessionEnd). IsStop (place.In call len left next) x) is stop)
  stops_at (place.Comparing n) o e at stop is = absurd (subst (λ (x : Option SessionEnd). IsStop (place.Comparing n) x) is stop)
  stops_at place.Closing o e at stop is =
      let on = subst (λ (p : Place). Stands (legs_for y goal) goal (setup_now y) a way p y.made (point_for y arena now.cells) y.calls.machine.return_at now)
      at stands in
      follows_closing (legs_for y goal) goal a way start now y.made (stand_at y.made (point_for y arena now.cells).world) moments on.0 on.1 refl on.2 e
      (subst (λ (x : Option SessionEnd). IsStop place.Closing x) is stop)
  stops_at (place.Ended t) o e at stop is =
      let on = subst (λ (p : Place). Stands (legs_for y goal) goal (setup_now y) a way p y.made (point_for y arena now.cells) y.calls.machine.return_at now)
      at stands in
      follows_ended (all_legs (legs_for y goal)) goal a way start now moments t e (subst (λ (x : Option SessionEnd). IsStop (place.Ended t) x) is stop) on

pub follows_stop : (tells : Bool) (told : IsTrue tells) (goal : List ℕ) (x y : Player) (arena arena' : List (List ℕ)) (start now : BenchState)
    → x.place ≡ place.At (at.Begin First stage.Erase) → x.made ≡ 0 → Played tells goal x arena start y arena' now
    → (e : SessionEnd) (o : Option SessionEnd) → IsStop y.place o → o ≡ Some e
    → Follows (all_legs (legs_for x goal)) goal (stand_at 0 (point_for x arena start.cells).world) e start now
follows_stop tells told goal x y arena arena' start now first made played e o stop is =
    let a : Stand = stand_at 0 (point_for x arena start.cells).world in
    let went = played.goes told a [] (stands_first x goal arena start first made) in
    subst (λ (l : Legs). Follows (all_legs l) goal a e start now) (legs_same x y played.same goal)
    (stops_at tells told goal a went.more y arena' start now went.moments went.stands y.place o e refl stop is)
