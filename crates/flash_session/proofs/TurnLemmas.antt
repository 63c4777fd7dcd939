-- Turns of a target, from what the calls in a window do.
use Rattle.std.proofs.Common.{◌≡◌, ◌<◌, ◌≤◌, ◌+◌, ◌-◌, ◌∙◌, ◌↔◌, ℕ, Bool, IsTrue, List, [], ◌∷◌, ◌++◌, length, take, drop, get_or, Option, Some, None, Result}
use Rattle.std.proofs.Common.{Ok, Err, sym, ap, subst, arith, append_assoc}
use Rattle.std.proofs.Math.Seq.{take-add}
use Rattle.std.proofs.lemmas.List.{append-nil, take-take, take_all, get_or-take, get_or-drop}
use Rattle.bench_model.specs.History.{left, Leaves, AddsNothing}
use Rattle.bench_model.specs.State.{BenchState, cells_half, SameOutside}
use Rattle.bench_model.proofs.Moments.{leaves_as}
use Rattle.target_core.specs.World.{World}
use Rattle.target_core.specs.Units.{state_op}
use Rattle.target_core.specs.Path.{Point}
use Rattle.algo_calls.specs.declared.call.Call.{Call}
use Rattle.algo_calls.specs.declared.call.CallEnd.{CallEnd}
use Rattle.algo_calls.specs.declared.call.CallEnd.TheVariants as call_end
use Rattle.algo_calls.specs.Setups.{Setup}
use Rattle.algo_calls.specs.Frames.{after_load}
use Rattle.algo_calls.specs.Calls.{after_reset, ResetGives}
use Rattle.readback.specs.declared.compare.Difference.{Difference}
use Rattle.flash_session.specs.Moves.{Move, Reset, Load, Stand, stand_at, Failure, failure, reset_to, run, IsOnPath, IsLeftOnWay}
use Rattle.flash_session.specs.Differs.{DiffersFirst, FindsIn}
use Rattle.flash_session.specs.Outcome.{GoTo}
use Rattle.flash_session.specs.Plays.{BreaksOff}
use Rattle.flash_session.specs.Regions.{RegionIndex}
use Rattle.flash_session.specs.Script.{Broken, script}
use Rattle.flash_session.proofs.Playing.{left_more}
use Rattle.flash_session.proofs.Runs.{run_one, run_then, run_stops, on_more, end_on}
use Rattle.flash_session.specs.declared.phase.Phase.{Phase}
use Rattle.flash_session.specs.declared.cursor.Cursor.{Cursor}
use Rattle.flash_session.specs.declared.cursor.Cursor.TheVariants as at
use Rattle.flash_session.specs.declared.target_end.TargetEnd.{TargetEnd}
use Rattle.flash_session.specs.declared.target_end.TargetEnd.TheVariants as ended
use Rattle.flash_session.specs.Rest.{Legs, all_legs, rest_of, with_torn, with_last, unbroken}
use Rattle.flash_session.specs.declared.player.Player.{Player}
use Rattle.flash_session.specs.Stands.{OnWay, none, EndIs, HasEnded, Stands, StandsOn}
use Rattle.flash_session.specs.Turns.{GoesOn, judged, made_by}
use Rattle.flash_session.proofs.CallEnds.{Came}

-- ---- the moves made so far grow

-- the moves grow by one that every rest begins with
pub way_on : (l : Legs) (way : List Move) (later next : Broken → List Move) (m : Move) → OnWay l way later → ((b : Broken) → later b ≡ m ∷ next b)
    → OnWay l (way ++ (m ∷ [])) next
way_on l way later next m on is b = ((on b).0, (on b).1 ∙ ap (λ (x : List Move). way ++ x) (is b) ∙ sym (append_assoc way (m ∷ []) (next b)))

-- the moves grow by the reset and the load of a phase, where the reset left these bytes
pub way_begun : (l : Legs) (s : Setup) (way : List Move) (c : Cursor) (r : RegionIndex) (p : Phase) (torn : List ℕ) → OnWay l way (rest_of l c)
    → ((b : Broken) (torn : List ℕ) → rest_of l c (with_torn r p torn b) ≡ Reset s torn ∷ Load s ∷ rest_of l (at.Init r p) b)
    → OnWay l (way ++ (Reset s torn ∷ Load s ∷ [])) (rest_of l (at.Init r p))
way_begun l s way c r p torn on is b = (
  (on (with_torn r p torn b)).0,
  (on (with_torn r p torn b)).1 ∙ ap (λ (x : List Move). way ++ x) (is b torn)
      ∙ sym (append_assoc way (Reset s torn ∷ Load s ∷ []) (rest_of l (at.Init r p) b)),
)

-- the moves grow by the last reset
pub way_last : (l : Legs) (s : Setup) (way : List Move) (c : Cursor) (torn : List ℕ) → OnWay l way (rest_of l c)
    → ((b : Broken) (torn : List ℕ) → rest_of l c (with_last torn b) ≡ Reset s torn ∷ [])
    → OnWay l (way ++ (Reset s torn ∷ [])) none
way_last l s way c torn on is b = (
  (on (with_last torn b)).0,
  (on (with_last torn b)).1 ∙ ap (λ (x : List Move). way ++ x) (is b torn) ∙ sym (append-nil (way ++ (Reset s torn ∷ []))),
)

-- ---- the state of a target

-- a stop now leaves what a stop at the end of the moves leaves
pub left_at_end : (a : Stand) (way : List Move) (made : ℕ) (w : World) (start : BenchState) (c : List ℕ) → run a way ≡ Ok (stand_at made w)
    → start.cells ≡ w.cells → start.operation ≡ state_op w.state
    → SameOutside start.operation start.cells c → IsLeftOnWay a way c
left_at_end a way made w start c ran cells operation same = record {
  at = w;
  on = end_on a (stand_at made w) way ran;
  left = subst (λ (l : List ℕ). SameOutside (state_op w.state) l c) cells (subst (λ (o : Option (ℕ × ℕ)). SameOutside o start.cells c) operation same);
}

-- ---- a reset, and a load

module _ (s : Setup) (a : Stand) (way : List Move) (made : ℕ) (w : World) (ran : run a way ≡ Ok (stand_at made w)) (start end : BenchState)
    (cells : start.cells ≡ w.cells) (operation : start.operation ≡ state_op w.state) where
  abbrev went_to : Stand → Result Stand Failure
  went_to b = Ok b

  pub reset_moves : (w1 : World) (gives : ResetGives s w start.operation w1) → run a (way ++ (Reset s gives.torn ∷ [])) ≡ Ok (stand_at made w1)
  reset_moves w1 gives =
      let is : w1 ≡ reset_to s w gives.torn = gives.leaves ∙ ap (λ (o : Option (ℕ × ℕ)). after_reset s w o gives.torn) operation in
      run_then a (stand_at made w) way (Reset s gives.torn ∷ []) _ ran
      (run_one (stand_at made w) (Reset s gives.torn) ∙ ap (λ (x : World). went_to (stand_at made x)) (sym is))

  pub begin_moves : (w1 w2 : World) (gives : ResetGives s w start.operation w1) → w2 ≡ after_load s w1
      → run a (way ++ (Reset s gives.torn ∷ Load s ∷ [])) ≡ Ok (stand_at made w2)
  begin_moves w1 w2 gives loaded =
      let assoc : (way ++ (Reset s gives.torn ∷ [])) ++ (Load s ∷ []) ≡ way ++ (Reset s gives.torn ∷ Load s ∷ []) =
      append_assoc way (Reset s gives.torn ∷ []) (Load s ∷ []) in
      subst (λ (l : List Move). run a l ≡ Ok (stand_at made w2)) assoc
      (run_then a (stand_at made w1) (way ++ (Reset s gives.torn ∷ [])) (Load s ∷ []) _ (reset_moves w1 gives)
      (run_one (stand_at made w1) (Load s) ∙ ap (λ (x : World). went_to (stand_at made x)) (sym loaded)))

  -- the moments of a reset are those of the point where the target stood
  pub reset_moments : (more : List Move) → Leaves (cells_half start) (cells_half end) (SameOutside start.operation start.cells)
      → Leaves (cells_half start) (cells_half end) (IsLeftOnWay a (way ++ more))
  reset_moments more moments =
      leaves_as (SameOutside start.operation start.cells) (IsLeftOnWay a (way ++ more))
      (λ c same. left_more a way more c (left_at_end a way made w start c ran cells operation same)) moments

-- ---- the end of a target

module _ (l : Legs) (goal : List ℕ) (a : Stand) (way : List Move) (later : Broken → List Move) (on : OnWay l way later) where
  abbrev whole_moves : List Move
  whole_moves = script (all_legs l) (on unbroken).0

  is_whole : way ++ later unbroken ≡ whole_moves
  is_whole = sym (on unbroken).1

  pub ends_failed : (made : ℕ) (call : Call) (e : CallEnd) (w : World) (now : BenchState) → run a way ≡ Err (failure made call e w) → w.cells ≡ now.cells
      → HasEnded (all_legs l) goal a way (ended.CallFailed made call e) now
  ends_failed made call e w now ran cells = record {
    broken = (on unbroken).0;
    later = later unbroken;
    whole = (on unbroken).1;
    ends = record {
      at = w;
      ran = subst (λ (m : List Move). run a m ≡ Err (failure made call e w)) is_whole (run_stops a _ way (later unbroken) ran);
      leaves =
          cells;
    };
  }

  pub ends_broken : (e : TargetEnd) (now : BenchState) → BreaksOff a way now → ((b : BreaksOff a whole_moves now) → EndIs a whole_moves goal e now)
      → HasEnded (all_legs l) goal a way e now
  ends_broken e now off to = record {
    broken = (on unbroken).0;
    later = later unbroken;
    whole = (on unbroken).1;
    ends = to (record {
      at = off.at;
      on = subst (λ (m : List Move). IsOnPath a m off.at) is_whole (on_more a way (later unbroken) off.at off.on);
      shows =
          off.shows;
    });
  }

-- the script was made to its end
pub ends_reached : (l : Legs) (goal : List ℕ) (a : Stand) (way : List Move) → OnWay l way none → (e : TargetEnd) (made : ℕ) (w : World) (now : BenchState)
    → run a way ≡ Ok (stand_at made w) → w.cells ≡ now.cells
    → ((moves : List Move) → GoTo a moves now.cells → EndIs a moves goal e now) → HasEnded (all_legs l) goal a way e now
ends_reached l goal a way on e made w now ran cells to =
    let all : way ≡ script (all_legs l) (on unbroken).0 = sym (append-nil way) ∙ sym (on unbroken).1 in
    record {
      broken = (on unbroken).0;
      later = [];
      whole = (on unbroken).1;
      ends = to (script (all_legs l) (on unbroken).0) (record {
        last = stand_at made w;
        ran = subst (λ (m : List Move). run a m ≡ Ok (stand_at made w)) all ran;
        leaves = cells;
      });
    }

-- a fault broke the script off after moves that were made, and the bench is as they left it
pub broke_off : (l : Legs) (goal : List ℕ) (a : Stand) (way : List Move) (later : Broken → List Move) → OnWay l way later
    → (e : TargetEnd) (made : ℕ) (w : World) (now : BenchState) → run a way ≡ Ok (stand_at made w)
    → now.cells ≡ w.cells → now.operation ≡ state_op w.state → ((moves : List Move) → BreaksOff a moves now → EndIs a moves goal e now)
    → HasEnded (all_legs l) goal a way e now
broke_off l goal a way later on e made w now ran cells operation to =
    ends_broken l goal a way later on e now (record {
      at = w;
      on = end_on a (stand_at made w) way ran;
      shows =
          record { cells = cells; operation = operation };
    }) (to (script (all_legs l) (on unbroken).0))

-- the place after a call whose run has ended
pub judged_stands : (l : Legs) (goal : List ℕ) (s : Setup) (a : Stand) (way : List Move) (call : Call) (made : ℕ) (next : Cursor) (e : CallEnd) (here : Point)
    (return_at : ℕ) (now : BenchState)
    → OnWay l way (rest_of l next) → Came a way made call e here.world now → here.world.cells ≡ now.cells
    → Stands l goal s a way (judged made call next e) (made_by made e) here return_at now
judged_stands l goal s a way call made next call_end.Done here return_at now on came cells = (on, came)
judged_stands l goal s a way call made next (call_end.Refused r0) here return_at now on came cells =
    ends_failed l goal a way (rest_of l next) on (made + 1) call (call_end.Refused r0) here.world now came cells
judged_stands l goal s a way call made next (call_end.Ended e) here return_at now on came cells =
    ends_failed l goal a way (rest_of l next) on (made + 1) call (call_end.Ended e) here.world now came cells
judged_stands l goal s a way call made next call_end.DeviceFault here return_at now on came cells =
    ends_broken l goal a way (rest_of l next) on ended.DeviceFault now came (λ b. b)

-- ---- the comparison

pub more_alike : (cells goal : List ℕ) (at size : ℕ) → take at cells ≡ take at goal → take size (drop at cells) ≡ take size (drop at goal)
    → take (at + size) cells ≡ take (at + size) goal
more_alike cells goal at size one two =
    take-add at size cells ∙ ap (λ (l : List ℕ). l ++ take size (drop at cells)) one ∙ ap (λ (l : List ℕ). take at goal ++ l) two ∙ sym (take-add at size goal)

pub all_alike : (cells goal : List ℕ) (n : ℕ) → length cells ≡ n → length goal ≡ n → take n cells ≡ take n goal → cells ≡ goal
all_alike cells goal n cells_long long same = sym (take_all n cells (omega (arith, cells_long))) ∙ same ∙ take_all n goal (omega (arith, long))

pub found_alike : (tells : Bool) (cells goal : List ℕ) (at size : ℕ) → IsTrue tells → FindsIn tells cells goal at size None
    → take size (drop at cells) ≡ take size (drop at goal)
found_alike tells cells goal at size told found = ap (λ (n : ℕ). take n (drop at cells)) (sym found.long) ∙ found.finds told ∙ found.are told

pub differs_first : (tells : Bool) (cells goal : List ℕ) (at size : ℕ) (d : Difference) → IsTrue tells → at + size ≤ length goal → take at cells ≡ take at goal
    → FindsIn tells cells goal at size (Some d) → DiffersFirst goal cells d
differs_first tells cells goal at size d told within same found =
    let f = found.finds in
    let less : f.offset < size = omega (arith, f.first.within, found.long) in
    let at_is : at + f.offset ≡ d.at = sym f.place in
    let bytes_at : get_or found.bytes f.offset 0 ≡ get_or goal d.at 0 =
    ap (λ (l : List ℕ). get_or l f.offset 0) (found.are told) ∙ get_or-take size (drop at goal) f.offset 0 less ∙ get_or-drop at goal f.offset 0
    ∙ ap (λ (k : ℕ). get_or goal k 0) at_is in
    let here : take f.offset (drop at cells) ≡ take f.offset (drop at goal) =
    f.first.least told ∙ ap (λ (l : List ℕ). take f.offset l) (found.are told) ∙ take-take f.offset size (drop at goal) (omega (arith, less)) in
    record {
      inside = omega (arith, f.place, less, within);
      wanted = sym bytes_at ∙ f.first.is_wanted;
      found = ap (λ (k : ℕ). get_or cells k 0) (sym at_is) ∙ f.first.is_found told;
      differ = f.first.unequal;
      before = subst (λ (i : ℕ). take i cells ≡ take i goal) at_is (more_alike cells goal at f.offset same here);
    }

-- while cells are only read, a stop leaves what it left before
pub read_moments : (a : Stand) (way : List Move) (made : ℕ) (w : World) (start end : BenchState) → run a way ≡ Ok (stand_at made w) → start.cells ≡ w.cells
    → start.operation ≡ state_op w.state
    → ((c : List ℕ) → left (cells_half start) c ↔ SameOutside start.operation start.cells c) → AddsNothing (cells_half start) (cells_half end)
    → Leaves (cells_half start) (cells_half end) (IsLeftOnWay a way)
read_moments a way made w start end ran cells operation told moments =
    leaves_as (left (cells_half start)) (IsLeftOnWay a way) (λ c at. left_at_end a way made w start c ran cells operation ((told c).0 at)) moments

-- ---- a turn in which no move was made

pub no_more : (a : Stand) (way : List Move) (goal : List ℕ) (new : Player) (arena : List (List ℕ)) (start end : BenchState) → StandsOn a way goal new arena end
    → Leaves (cells_half start) (cells_half end) (IsLeftOnWay a way) → GoesOn a way goal new arena start end
no_more a way goal new arena start end stands moments = record {
  more = [];
  stands = subst (λ (l : List Move). StandsOn a l goal new arena end) (sym (append-nil way)) stands;
  moments = subst (λ (l : List Move). Leaves (cells_half start) (cells_half end) (IsLeftOnWay a l)) (sym (append-nil way)) moments;
}
