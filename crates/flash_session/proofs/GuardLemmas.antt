-- What a stop leaves, after one turn more.
use Rattle.std.proofs.Common.{◌≡◌, ◌∙◌, ◌↔◌, inl, ℕ, Bool, IsTrue, List, ◌∷◌, ◌++◌, ◌+◌, drop, None, Option, refl, sym, ap, subst, arith, true}
use Rattle.bench_model.specs.History.{left, Leaves, LeftOnly}
use Rattle.bench_model.specs.State.{SameOutside, BenchState, file_half, cells_half}
use Rattle.bench_model.specs.Pairs.{PairsLeave}
use Rattle.bench_model.proofs.Moments.{leaves_here, leaves_as, stays_leaves, pairs_of, pairs_then, in_turn, never}
use Rattle.job_text.specs.Files.{IsWhole}
use Rattle.job_file.specs.Stops.{IsWholeOrClosed}
use Rattle.flash_session.specs.Moves.{Move, Stand, IsLeftOnWay}
use Rattle.flash_session.specs.declared.cursor.Place.{Place}
use Rattle.flash_session.specs.declared.cursor.Place.TheVariants as place
use Rattle.flash_session.specs.declared.target_end.TargetEnd.{TargetEnd}
use Rattle.flash_session.specs.declared.target_end.TargetEnd.TheVariants as ended
use Rattle.flash_session.specs.declared.target_end.Turn.TheVariants as turn
use Rattle.flash_session.specs.declared.player.Player.{Player}
use Rattle.flash_session.specs.Fit.{Fit, IsPlace}
use Rattle.flash_session.specs.Stands.{Stands, StandsOn}
use Rattle.flash_session.specs.Targets.{setup_now, point_for, legs_for, has_second, size_for}
use Rattle.flash_session.specs.Turns.{IsUnended, turn_of, ClosedFile, IsDone, KeepsFile, FileTurn, Closes, GoesOn, Turns}
use Rattle.flash_session.specs.Guarded.{HasBody, IsAtClose, has_no_close, FileAt, Guarded}

pub over_going : (p : Place) → turn_of p ≡ turn.Ended → IsUnended p → ⊥
over_going (place.Ended e) over going = going
over_going p over going = cc

-- a file that stays is right for a target that isn't done
file_kept : (body : List ℕ) (p : Place) (f : List ℕ) → (IsDone p → ⊥) → IsWhole body f → FileAt body p f
file_kept body (place.Ended ended.Done) f other whole = absurd (other tt)
file_kept body (place.Ended ended.StoreFault) f other whole = inl whole
file_kept body p f other whole = whole

going_open : (p : Place) → IsUnended p → IsDone p → ⊥
going_open (place.Ended e) going is = going
going_open p going is = is

done_closed : (p : Place) → (IsDone p → ⊥) → p ≡ place.Ended ended.Done → ⊥
done_closed p other is = other (subst (λ (q : Place). IsDone q) (sym is) tt)

file_closed : (body : List ℕ) (p : Place) (old new : List ℕ) → drop 1 old ≡ body → ClosedFile p old new → FileAt body p new
file_closed body (place.Ended ended.Done) old new same is = is ∙ ap (λ (l : List ℕ). 0 ∷ l) same
file_closed body (place.Ended ended.StoreFault) old new same is = subst (λ (l : List ℕ). IsWholeOrClosed l new) same is
file_closed body p old new same is = absurd is

-- a close ends only as done or with a fault of the job file
close_ends : (p : Place) (old new : List ℕ) → ClosedFile p old new → (e : TargetEnd) → p ≡ place.Ended e → has_no_close e ≡ true → ⊥
close_ends (place.Ended ended.Done) old new is e same none =
    let done : ended.Done ≡ e = cc in let no_ : has_no_close ended.Done ≡ true = ap has_no_close done ∙ none in cc
close_ends (place.Ended ended.StoreFault) old new is e same none =
    let fault : ended.StoreFault ≡ e = cc in let no_ : has_no_close ended.StoreFault ≡ true = ap has_no_close fault ∙ none in cc
close_ends p old new is e same none = absurd is

-- a job that is whole is whole at each moment before the first turn
pub guarded_here : (body goal : List ℕ) (p : Place) (s : BenchState) → IsUnended p → IsWhole body s.file → LeftOnly s.file (file_half s)
    → Guarded body goal p s s
guarded_here body goal p s going whole only = record {
  going = λ yes_. (
    whole,
    pairs_of (IsWhole body) (λ c. left (cells_half s) c) (HasBody body)
        (leaves_here (file_half s) (IsWhole body) (λ f at. only f at ∙ whole)) (leaves_here (cells_half s) (λ c. left (cells_half s) c) (λ c at. at))
        (λ f c has at. has),
  );
  file = file_kept body p s.file (going_open p going) whole;
  idle = λ is. absurd (done_closed p (going_open p going) is);
  over = λ over. absurd (over_going p over going);
}

module _ (tells : Bool) (told : IsTrue tells) (goal : List ℕ) (a : Stand) (way : List Move) (x y : Player) (arena arena' : List (List ℕ)) (s t u : BenchState)
    (body : List ℕ)
    (fit : Fit tells x arena t) (only : LeftOnly t.file (file_half t)) (law : (c : List ℕ) → left (cells_half t) c ↔ SameOutside t.operation t.cells c)
    (stands : StandsOn a way goal x arena t) (turns : Turns tells goal x arena t y arena' u) where
  goes : GoesOn a way goal y arena' t u
  goes = turns.told told a way stands

  file_by : (p : Place) → x.place ≡ p → FileTurn tells p y.place t u
  file_by p is = subst (λ (q : Place). FileTurn tells q y.place t u) is turns.file

  -- a turn that isn't the close
  quiet : KeepsFile tells y.place t u → IsWhole body t.file → PairsLeave s t (HasBody body) → Guarded body goal y.place s u
  quiet keeps whole before =
      let now : PairsLeave t u (HasBody body) =
      pairs_of (IsWhole body) (IsLeftOnWay a (way ++ goes.more)) (HasBody body)
      (leaves_as (left (file_half t)) (IsWhole body) (λ f at. only f at ∙ whole) keeps.read.moments) goes.moments (λ f c has at. has) in
      let all : PairsLeave s u (HasBody body) = pairs_then (HasBody body) before now in
      record {
        going = λ going. (keeps.read.file told ∙ whole, all);
        file = file_kept body y.place u.file keeps.other (keeps.read.file told ∙ whole);
        idle = λ done. absurd (done_closed y.place keeps.other done);
        over = λ over. (u.moment + 1, never (HasBody body) (IsAtClose body goal) all, (λ e is none. omega arith));
      }

  -- the turn that is the close
  at_close : x.place ≡ place.Closing → Closes tells y.place t u → IsWhole body t.file → PairsLeave s t (HasBody body) → Guarded body goal y.place s u
  at_close is closes whole before =
      let standing = subst (λ (q : Place). Stands (legs_for x goal) goal (setup_now x) a way q x.made (point_for x arena t.cells) x.calls.machine.return_at t)
      is stands in
      let idle : t.operation ≡ None = subst (λ (q : Place). IsPlace tells (has_second x) x.moved q (size_for x) t) is fit.place told in
      let files : Leaves (file_half t) (file_half u) (IsWholeOrClosed body) =
      subst (λ (b : List ℕ). Leaves (file_half t) (file_half u) (IsWholeOrClosed b)) (ap (λ (f : List ℕ). drop 1 f) whole) (closes.moments told) in
      let cells : Leaves (cells_half t) (cells_half u) (λ c. c ≡ goal) =
      stays_leaves (λ c. c ≡ goal) (λ c at. let same : SameOutside None t.cells c =
      subst (λ (o : Option (ℕ × ℕ)). SameOutside o t.cells c) idle ((law c).0 at) in same ∙ standing.2) closes.cells.half in
      let now : PairsLeave t u (IsAtClose body goal) = pairs_of (IsWholeOrClosed body) (λ c. c ≡ goal) (IsAtClose body goal) files cells
      (λ f c has at. (has, at)) in
      record {
        going = λ going. absurd (over_going y.place closes.over going);
        file = file_closed body y.place t.file u.file (ap (λ (f : List ℕ). drop 1 f) whole) (closes.file told);
        idle = λ done. closes.cells.operation ∙ idle;
        over = λ over. (
          t.moment,
          in_turn (HasBody body) (IsAtClose body goal) before now,
          (λ e is none. absurd (close_ends y.place t.file u.file (closes.file told) e is none)),
        );
      }

  by_place : (p : Place) → x.place ≡ p → IsWhole body t.file → PairsLeave s t (HasBody body) → Guarded body goal y.place s u
  by_place (place.At c) is whole before = quiet (file_by (place.At c) is) whole before
  by_place (place.In call len left_ next) is whole before = quiet (file_by (place.In call len left_ next) is) whole before
  by_place (place.Comparing at) is whole before = quiet (file_by (place.Comparing at) is) whole before
  by_place place.Closing is whole before = at_close is (file_by place.Closing is) whole before
  by_place (place.Ended e) is whole before = quiet (file_by (place.Ended e) is) whole before

  pub guarded_then : IsUnended x.place → Guarded body goal x.place s t → Guarded body goal y.place s u
  guarded_then going guarded = by_place x.place refl (guarded.going going).0 (guarded.going going).1

  -- a target that hasn't ended has the file as it was
  file_still : (p : Place) → x.place ≡ p → IsUnended y.place → u.file ≡ t.file
  file_still (place.At c) is going = (file_by (place.At c) is).read.file told
  file_still (place.In call len left_ next) is going = (file_by (place.In call len left_ next) is).read.file told
  file_still (place.Comparing at) is going = (file_by (place.Comparing at) is).read.file told
  file_still place.Closing is going = absurd (over_going y.place (file_by place.Closing is).over going)
  file_still (place.Ended e) is going = (file_by (place.Ended e) is).read.file told

  pub same_file : IsUnended y.place → u.file ≡ t.file
  same_file going = file_still x.place refl going
