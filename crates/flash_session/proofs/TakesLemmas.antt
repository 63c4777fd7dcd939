-- A turn does just one thing.
use Rattle.std.proofs.Common.{◌≡◌, ℕ, Bool, List, refl, sym, subst}
use Rattle.bench_model.specs.Calls.{CellsAreRead}
use Rattle.bench_model.specs.State.{BenchState}
use Rattle.algo_calls.specs.declared.call.Call.{Call}
use Rattle.algo_calls.specs.declared.call.CallEnd.{CallEnd}
use Rattle.algo_calls.specs.declared.call.CallEnd.TheVariants as call_end
use Rattle.target_core.specs.declared.run.RunEnd.{RunEnd}
use Rattle.target_core.specs.declared.run.SliceEnd.TheVariants as slice
use Rattle.algo_calls.specs.declared.calls_in.CallsIn.{CallsIn}
use Rattle.algo_calls.specs.Shows.{Slices}
use Rattle.algo_calls.specs.Ends.{call_end_of, success_of}
use Rattle.flash_session.specs.declared.phase.Phase.{Phase}
use Rattle.flash_session.specs.declared.cursor.Cursor.{Cursor}
use Rattle.flash_session.specs.declared.cursor.Cursor.TheVariants as at
use Rattle.flash_session.specs.declared.cursor.Place.{Place}
use Rattle.flash_session.specs.declared.cursor.Place.TheVariants as place
use Rattle.flash_session.specs.declared.cursor.Step.TheVariants as step
use Rattle.flash_session.specs.declared.target_end.TargetEnd.TheVariants as ended
use Rattle.flash_session.specs.declared.player.Player.{Player}
use Rattle.flash_session.specs.Regions.{RegionIndex}
use Rattle.flash_session.specs.Takes.{IsKind, FromCursor, FromCall, TakesOn, Slice, SliceOf, IsStill}
use Rattle.flash_session.specs.Turns.{judged, Judges}

pub begins_so : (c : Cursor) (r : RegionIndex) (p : Phase) → IsKind c (step.Begin r p) → FromCursor c (place.At (at.Init r p))
begins_so (at.Begin q k) r p is = tt
begins_so (at.Init q k) r p is = absurd is
begins_so (at.Calls q k i) r p is = absurd is
begins_so at.Last r p is = absurd is

pub prepares_so : (c : Cursor) (call : Call) (from len left : ℕ) (next : Cursor) → IsKind c (step.Call call from len next)
    → FromCursor c (place.In call len left next)
prepares_so (at.Begin q k) call from len left next is = absurd is
prepares_so (at.Init q k) call from len left next is = tt
prepares_so (at.Calls q k i) call from len left next is = tt
prepares_so at.Last call from len left next is = absurd is

pub resets_so : (c : Cursor) → IsKind c step.Last → FromCursor c (place.Comparing 0)
resets_so (at.Begin q k) is = refl
resets_so (at.Init q k) is = absurd is
resets_so (at.Calls q k i) is = absurd is
resets_so at.Last is = refl

pub breaks_so : (c : Cursor) (r : RegionIndex) (p : Phase) → IsKind c (step.Begin r p) → FromCursor c (place.Ended ended.DeviceFault)
breaks_so (at.Begin q k) r p is = refl
breaks_so (at.Init q k) r p is = absurd is
breaks_so (at.Calls q k i) r p is = absurd is
breaks_so at.Last r p is = absurd is

pub last_breaks_so : (c : Cursor) → IsKind c step.Last → FromCursor c (place.Ended ended.DeviceFault)
last_breaks_so (at.Begin q k) is = refl
last_breaks_so (at.Init q k) is = absurd is
last_breaks_so (at.Calls q k i) is = absurd is
last_breaks_so at.Last is = refl

pub unread_so : (c : Cursor) (call : Call) (from len : ℕ) (next : Cursor) → IsKind c (step.Call call from len next)
    → FromCursor c (place.Ended ended.StoreFault)
unread_so (at.Begin q k) call from len next is = absurd is
unread_so (at.Init q k) call from len next is = refl
unread_so (at.Calls q k i) call from len next is = refl
unread_so at.Last call from len next is = absurd is

judged_so : (steps made : ℕ) (call : Call) (len left : ℕ) (next : Cursor) (x : CallEnd) → FromCall steps call len left next (judged made call next x)
judged_so steps made call len left next call_end.Done = refl
judged_so steps made call len left next (call_end.Refused r0) = tt
judged_so steps made call len left next (call_end.Ended e) = tt
judged_so steps made call len left next call_end.DeviceFault = tt

pub judges_so : (steps : ℕ) (old new : Player) (call : Call) (len left : ℕ) (next : Cursor) (e : RunEnd) → Judges old call len next e new
    → FromCall steps call len left next new.place
judges_so steps old new call len left next e is =
    subst (λ (g : Player). FromCall steps call len left next g.place) (sym is)
    (judged_so steps old.made call len left next (call_end_of (success_of call len) e))

pub takes_from : (steps size : ℕ) (p q new : Place) → p ≡ q → TakesOn steps size q new → TakesOn steps size p new
takes_from steps size p q new is takes = subst (λ (x : Place). TakesOn steps size x new) (sym is) takes

-- ---- a slice

pub slice_more : (tells : Bool) (steps : ℕ) (old : Player) (cs : CallsIn) (arena arena' : List (List ℕ)) (start end : BenchState) (call : Call)
    (len left rest : ℕ) (next : Cursor)
    → Slices tells old.calls arena old.window start left rest steps slice.More cs arena' end
    → Slice tells steps call len left next old arena start (record old { calls = cs; place = place.In call len rest next }) arena' end
slice_more tells steps old cs arena arena' start end call len left rest next went =
    record { rest = rest; cut = slice.More; falls = went.falls; few = went.most; run = went.run; behind = (refl, refl) }

pub slice_ended : (tells : Bool) (steps : ℕ) (old new : Player) (cs : CallsIn) (arena arena' : List (List ℕ)) (start end : BenchState) (call : Call)
    (len left rest : ℕ) (next : Cursor) (e : RunEnd)
    → Slices tells old.calls arena old.window start left rest steps (slice.Ended e) cs arena' end → Judges (record old { calls = cs }) call len next e new
    → Slice tells steps call len left next old arena start new arena' end
slice_ended tells steps old new cs arena arena' start end call len left rest next e went is =
    subst (λ (g : Player). Slice tells steps call len left next old arena start g arena' end) (sym is)
    (record { rest = rest; cut = slice.Ended e; falls = went.falls; few = went.most; run = went.run; behind = (refl, refl) })

pub slice_from : (tells : Bool) (goal : List ℕ) (steps : ℕ) (p q : Place) (old : Player) (arena : List (List ℕ)) (start : BenchState) (new : Player)
    (arena' : List (List ℕ)) (end : BenchState) → p ≡ q
    → SliceOf tells goal steps q old arena start new arena' end → SliceOf tells goal steps p old arena start new arena' end
slice_from tells goal steps p q old arena start new arena' end is slices = subst (λ (x : Place). SliceOf tells goal steps x old arena start new arena' end)
    (sym is) slices

-- ---- the comparison and the close

pub read_still : (tells : Bool) (x : Player) (p : Place) (arena : List (List ℕ)) (s t : BenchState) → CellsAreRead tells s t
    → IsStill tells x arena s (record x { place = p }) arena t
read_still tells x p arena s t read = record {
  made = refl;
  untouched = record { calls = refl; ram = refl; stays = λ told. record { operation = read.operation told; cells = read.cells told } };
}
