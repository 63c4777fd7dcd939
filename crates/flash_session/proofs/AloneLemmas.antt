-- A target that has ended has an outcome of its own script, and a target begins with its whole script left.
use Rattle.std.proofs.Common.{◌≡◌, ◌≤◌, ◌+◌, ◌*◌, ◌∙◌, ◌↔◌, ℕ, Bool, IsTrue, Option, List, [], ◌∷◌, ◌++◌, refl, sym, ap, subst, arith}
use Rattle.bench_model.specs.History.{left, Leaves}
use Rattle.bench_model.specs.State.{SameOutside, BenchState, cells_half}
use Rattle.bench_model.proofs.Moments.{leaves_here, leaves_as}
use Rattle.target_core.specs.World.{World}
use Rattle.target_core.specs.Path.{Point}
use Rattle.target_core.specs.Runs.{Piece, run_last, run_path}
use Rattle.target_core.proofs.PathLemmas.{point_even}
use Rattle.target_core.proofs.RunLemmas.{run_last_from}
use Rattle.algo_calls.specs.declared.call.Call.{Call}
use Rattle.algo_calls.specs.Frames.{Request, asked, fuel_of, first_point, path_of}
use Rattle.algo_calls.specs.Setups.{Setup}
use Rattle.flash_session.specs.Moves.{Move, Make, Stand, stand_at, IsPointOf, IsOnPath, IsLeftOnWay}
use Rattle.flash_session.specs.Regions.{First}
use Rattle.flash_session.specs.Script.{Leg, Broken, script}
use Rattle.flash_session.specs.declared.phase.Phase.TheVariants as stage
use Rattle.flash_session.specs.declared.cursor.Cursor.TheVariants as at
use Rattle.flash_session.specs.declared.target_end.TargetEnd.{TargetEnd}
use Rattle.flash_session.specs.declared.target_end.TargetEnd.TheVariants as ended
use Rattle.flash_session.specs.declared.cursor.Place.{Place}
use Rattle.flash_session.specs.declared.cursor.Place.TheVariants as place
use Rattle.flash_session.specs.declared.player.Player.{Player}
use Rattle.flash_session.specs.Targets.{setup_now, point_for, legs_for}
use Rattle.flash_session.specs.Fit.{Fit}
use Rattle.flash_session.specs.Turns.{IsUnended, GoesOn}
use Rattle.flash_session.specs.Rest.{Legs, all_legs, rest_of}
use Rattle.flash_session.specs.Stands.{OnWay, none, InCall, HasEnded, Stands, StandsOn}
use Rattle.flash_session.proofs.Playing.{left_more}
use Rattle.flash_session.proofs.Runs.{run_none, end_on, on_more, on_then, of_one}
use Rattle.flash_session.specs.Alone.{FollowsAs}
use Rattle.flash_session.proofs.RestLemmas.{script_is}
use Rattle.flash_session.proofs.TurnLemmas.{no_more}

-- before its first turn a target has made no move, and the whole script is left
pub first_way : (l : Legs) → OnWay l [] (rest_of l (at.Begin First stage.Erase))
first_way l b = (b, script_is l b)

module _ (legs : List Leg) (goal : List ℕ) (a : Stand) (way : List Move) (start now : BenchState)
    (moments : Leaves (cells_half start) (cells_half now) (IsLeftOnWay a way)) where
  all_moments : (broken : Broken) (later : List Move) → script legs broken ≡ way ++ later
      → Leaves (cells_half start) (cells_half now) (IsLeftOnWay a (script legs broken))
  all_moments broken later whole =
      subst (λ (l : List Move). Leaves (cells_half start) (cells_half now) (IsLeftOnWay a l)) (sym whole)
      (leaves_as (IsLeftOnWay a way) (IsLeftOnWay a (way ++ later)) (left_more a way later) moments)

  pub ends_alone : (e : TargetEnd) → HasEnded legs goal a way e now → FollowsAs legs goal a e start now
  ends_alone ended.Done is = λ r. record { broken = is.broken; ends = is.ends; moments = all_moments is.broken is.later is.whole }
  ends_alone (ended.Open fault) is = is.ends
  ends_alone (ended.Survey fault) is = is.ends
  ends_alone e is = record { broken = is.broken; ends = is.ends; moments = all_moments is.broken is.later is.whole }

-- ---- before a target's next turn

path_is : (s : Setup) (w : World) (r : Request) → path_of s w r ≡ run_path s.layout.return_at (fuel_of s r.call) (first_point s w r)
unfolding path_of
path_is s w r = refl

-- the world of a call in progress is a point of the script's path
in_call : (s : Setup) (a : Stand) (way : List Move) (call : Call) (len left made : ℕ) (here : Point) (return_at : ℕ)
    → InCall s a way call len left made here return_at → IsOnPath a way here.world
in_call s a way call len left made here return_at x =
    let r : Request = asked call x.bytes in
    let first : Point = first_point s x.before r in
    let low : 2 * x.midway.made ≤ run_last s.layout.return_at (fuel_of s call) first =
    run_last_from s.layout.return_at (fuel_of s call) first x.midway.made (omega (arith, x.midway.fuel_is)) x.midway.goes in
    let on_piece : IsPointOf (run_path s.layout.return_at (fuel_of s call) first) here.world =
    record { number = 2 * x.midway.made; within = low; is = ap (λ (p : Point). p.world) (x.midway.is ∙ sym (point_even first x.midway.made)) } in
    let on_call : IsPointOf (path_of s x.before r) here.world = subst (λ (q : Piece). IsPointOf q here.world) (sym (path_is s x.before r)) on_piece in
    subst (λ (l : List Move). IsOnPath a l here.world) (sym x.is)
    (on_then a (stand_at made x.before) x.done (Make s call x.bytes ∷ []) here.world x.ran
    (of_one (stand_at made x.before) (Make s call x.bytes) here.world on_call))

pub on_now : (l : Legs) (goal : List ℕ) (s : Setup) (a : Stand) (way : List Move) (p : Place) (made : ℕ) (here : Point) (return_at : ℕ) (now : BenchState)
    → IsUnended p → Stands l goal s a way p made here return_at now → IsOnPath a way here.world
on_now l goal s a way (place.In call len left next) made here return_at now going stands = in_call s a way call len left made here return_at stands.1
on_now l goal s a way (place.Ended e) made here return_at now going stands = absurd going
on_now l goal s a way p made here return_at now going stands = end_on a (stand_at made here.world) way stands.1

-- a target that has made no turn has continued by no move
pub goes_here : (tells : Bool) (told : IsTrue tells) (a : Stand) (way : List Move) (goal : List ℕ) (x : Player) (arena : List (List ℕ)) (now : BenchState)
    → IsUnended x.place → Fit tells x arena now
    → ((c : List ℕ) → left (cells_half now) c ↔ SameOutside now.operation now.cells c) → StandsOn a way goal x arena now → GoesOn a way goal x arena now now
goes_here tells told a way goal x arena now going fit law stands =
    let here : Point = point_for x arena now.cells in
    no_more a way goal x arena now now stands
    (leaves_here (cells_half now) (IsLeftOnWay a way)
    (λ c at. record {
      at = here.world;
      on = on_now (legs_for x goal) goal (setup_now x) a way x.place x.made here x.calls.machine.return_at now going stands;
      left = subst (λ (o : Option (ℕ × ℕ)). SameOutside o now.cells c) (fit.agrees.operation told) ((law c).0 at);
    }))

pub stands_first : (x : Player) (goal : List ℕ) (arena : List (List ℕ)) (now : BenchState) → x.place ≡ place.At (at.Begin First stage.Erase) → x.made ≡ 0
    → StandsOn (stand_at 0 (point_for x arena now.cells).world) [] goal x arena now
stands_first x goal arena now is made =
    let here : Point = point_for x arena now.cells in
    let a : Stand = stand_at 0 here.world in
    let P : Place → ℕ → Type 0 = λ p n. Stands (legs_for x goal) goal (setup_now x) a [] p n here x.calls.machine.return_at now in
    subst (λ (p : Place). P p x.made) (sym is) (subst (λ (n : ℕ). P (place.At (at.Begin First stage.Erase)) n) (sym made)
    (first_way (legs_for x goal), run_none a))

-- ---- a target that hasn't ended is at a point of its own script's path, whatever cells the resets still to come leave

of_way : (l : Legs) (a : Stand) (way : List Move) (later : Broken → List Move) (w : World) → OnWay l way later → IsOnPath a way w → (b : Broken)
    → (whole : Broken) × IsOnPath a (script (all_legs l) whole) w
of_way l a way later w on at b = ((on b).0, subst (λ (m : List Move). IsOnPath a m w) (sym (on b).1) (on_more a way (later b) w at))

pub on_script : (l : Legs) (goal : List ℕ) (s : Setup) (a : Stand) (way : List Move) (p : Place) (made : ℕ) (here : Point) (return_at : ℕ) (now : BenchState)
    → IsUnended p → Stands l goal s a way p made here return_at now
    → (b : Broken) → (whole : Broken) × IsOnPath a (script (all_legs l) whole) here.world
on_script l goal s a way (place.At c) made here return_at now going stands =
    of_way l a way (rest_of l c) here.world stands.0 (on_now l goal s a way (place.At c) made here return_at now going stands)
on_script l goal s a way (place.In call len left next) made here return_at now going stands =
    of_way l a way (rest_of l next) here.world stands.0 (on_now l goal s a way (place.In call len left next) made here return_at now going stands)
on_script l goal s a way (place.Comparing at) made here return_at now going stands =
    of_way l a way none here.world stands.0 (on_now l goal s a way (place.Comparing at) made here return_at now going stands)
on_script l goal s a way place.Closing made here return_at now going stands =
    of_way l a way none here.world stands.0 (on_now l goal s a way place.Closing made here return_at now going stands)
on_script l goal s a way (place.Ended e) made here return_at now going stands = absurd going
