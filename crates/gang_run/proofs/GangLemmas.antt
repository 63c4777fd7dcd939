-- Turns of several targets, one after the other.
use Rattle.std.proofs.Common.{◌≡◌, ◌≢◌, ◌<◌, ◌≤◌, ◌+◌, ◌∙◌, ◌↔◌, ◌⊎◌, inl, inr, ⊎_elim, ℕ, suc, Bool, true, false, IsTrue, List, [], ◌∷◌, ◌++◌, length, get_or}
use Rattle.std.proofs.Common.{set, take, Option, Some, None, refl, sym, ap, subst, arith}
use Rattle.std.specs.Borrow.{Bor}
use Rattle.std.specs.List.{sum_by}
use Rattle.std.proofs.lemmas.List.{get_or-set_other, get_or-set_same, length-set, get_or_read, take_more}
use Rattle.std.proofs.lemmas.List.Sums.{sum_by-set}
use Rattle.std.proofs.lemmas.Bool.{cases_lt, cases_eq}
use Rattle.bench_model.specs.declared.bench.Bench.{Ghosts}
use Rattle.bench_model.specs.Calls.{FileIsRead}
use Rattle.bench_model.specs.Counted.{is_store_fault, is_device_fault, IsCounted}
use Rattle.bench_model.proofs.CountLemmas.{counted_then, none_counted}
use Rattle.bench_model.specs.State.{SameOutside, BenchState, file_half, cells_half}
use Rattle.bench_model.specs.History as history
use Rattle.bench_model.specs.History.{left, LeftOnly}
use Rattle.bench_model.proofs.Moments as moments
use Rattle.bench_model.proofs.Moments.{still_only}
use Rattle.job_text.specs.Files.{IsWhole}
use Rattle.job_text.specs.Stands.{StandsFor}
use Rattle.job_text.specs.declared.job.Job.{Job}
use Rattle.target_core.specs.Windows.{window_of, OnlyIn}
use Rattle.target_core.specs.Targets.{with_ram, point_in}
use Rattle.target_core.proofs.RamLemmas.{other_stays}
use Rattle.flash_session.specs.declared.fault.SurveyFault.TheVariants as survey
use Rattle.flash_session.specs.Moves.{Move, Stand}
use Rattle.flash_session.specs.declared.cursor.Place.{Place}
use Rattle.flash_session.specs.declared.cursor.Place.TheVariants as place
use Rattle.flash_session.specs.declared.target_end.TargetEnd.{TargetEnd}
use Rattle.flash_session.specs.declared.target_end.TargetEnd.TheVariants as ended
use Rattle.flash_session.specs.declared.target_end.Turn.{Turn}
use Rattle.flash_session.specs.declared.target_end.Turn.TheVariants as turn
use Rattle.gang_run.specs.declared.target.GangTarget.{GangTarget}
use Rattle.flash_session.specs.Alone.{FollowsAs}
use Rattle.flash_session.specs.Fit.{IsPlace, Fit, togo}
use Rattle.flash_session.specs.Guarded.{Guarded}
use Rattle.flash_session.specs.declared.cursor.RegionIndex.{RegionIndex}
use Rattle.flash_session.specs.Rest.{Legs, all_legs}
use Rattle.flash_session.specs.Stands.{HasEnded, Stands, StandsOn}
use Rattle.flash_session.specs.Takes.{TakesOn, SliceOf}
use Rattle.flash_session.specs.Targets.{setup_now, point_for, legs_for, has_second, size_for, goal_for}
use Rattle.flash_session.specs.Turns.{IsUnended, turn_of, place_fault, GoesOn, Turns, FileTurn}
use Rattle.flash_session.proofs.AloneLemmas.{goes_here, ends_alone}
use Rattle.flash_session.proofs.FitLemmas.{goal_same, size_same, of_script}
use Rattle.flash_session.proofs.WholeLemmas.{goes_then, turns_to}
use Rattle.flash_session.specs.declared.player.Player.{Player}
use Rattle.board_file.specs.Limits.{size_of}
use Rattle.flash_session.proofs.GuardLemmas.{over_going, guarded_here, guarded_then, same_file}
use Rattle.flash_session.proofs.MachineLemmas.{same_here, same_then, legs_same}
use Rattle.gang_run.specs.declared.gang.Asked.{Asked}
use Rattle.gang_run.specs.declared.gang.Gang.{Gang}
use Rattle.gang_run.specs.declared.slot.Slot.{Slot}
use Rattle.gang_run.specs.declared.slot.Slot.TheVariants as slot
use Rattle.gang_run.specs.Alone.{EndsAlone}
use Rattle.gang_run.specs.Gangs.{slot_at, OtherWindow, IsGang, gang_togo, AreReady, SameWindow, OneTurn, GivesTurn, GivesTurns, GivesRounds, one_round}
use Rattle.gang_run.specs.Gangs.{rounds_of, AllSince, AllKept, Playing, Rounding}
use Rattle.gang_run.specs.Slots.{slot_turn, slot_togo, place_end, slot_end, IsRefusal, EndsByScript, IsSlot, IsSlotJob, HasJob, Ready, IsReady, TargetTurns}
use Rattle.gang_run.specs.Slots.{SlotTurns, SlotTakes, Counts, TargetKept, SlotKept, SlotStands, TargetSince, SlotSince}

-- ---- one target

-- a player stands where it stood as long as its window is unchanged
pub stands_in : (a : Stand) (way : List Move) (goal : List ℕ) (x : Player) (arena arena' : List (List ℕ)) (b : BenchState)
    → window_of arena' x.window ≡ window_of arena x.window → StandsOn a way goal x arena b → StandsOn a way goal x arena' b
stands_in a way goal x arena arena' b same stands =
    subst (λ (ram : List ℕ). Stands (legs_for x goal) goal (setup_now x) a way x.place x.made (point_in (with_ram x.calls.machine ram) b.cells)
    x.calls.machine.return_at b) (sym same) stands

goes_in : (a : Stand) (way : List Move) (goal : List ℕ) (x : Player) (arena arena' : List (List ℕ)) (s t : BenchState)
    → window_of arena' x.window ≡ window_of arena x.window → GoesOn a way goal x arena s t → GoesOn a way goal x arena' s t
goes_in a way goal x arena arena' s t same goes = record {
  more = goes.more;
  stands = stands_in a (way ++ goes.more) goal x arena arena' t same goes.stands;
  moments = goes.moments;
}

-- a target has ended or not
either_turn : (p : Place) → (turn_of p ≡ turn.Ended) ⊎ IsUnended p
either_turn (place.Ended e) = inl refl
either_turn p = inr tt

abbrev pub Law : {B : Type 0} → Ghosts B → Type 0
Law {B} G = (bench : B) (c : List ℕ) → IsTrue G.tells → left (cells_half (G.state bench)) c ↔ SameOutside (G.state bench).operation (G.state bench).cells c

-- a turn continues the history of the job file
files_on : (tells : Bool) (told : IsTrue tells) (old new : Place) (s t : BenchState) → FileTurn tells old new s t → history.GoesOn (file_half s) (file_half t)
files_on tells told place.Closing new s t turn = (turn.moments told).goes_on
files_on tells told old new s t turn = turn.read.moments.goes_on

-- ---- counts

no_fault : (p : Place) → IsUnended p → place_fault p ≡ None
no_fault (place.Ended e) going = absurd going
no_fault p going = refl

counts_here : (p : Place) (s : BenchState) → IsUnended p → Counts p s s
counts_here p s going = record {
  device = subst (λ (b : Bool). IsCounted s.device_faults s.device_faults b) (sym (ap is_device_fault (no_fault p going)))
      (none_counted s.device_faults s.device_faults refl);
  store = subst (λ (b : Bool). IsCounted s.store_faults s.store_faults b) (sym (ap is_store_fault (no_fault p going)))
      (none_counted s.store_faults s.store_faults refl);
}

counts_then : (tells : Bool) (x y : GangTarget) (arena arena' : List (List ℕ)) (s t u : BenchState) → IsUnended x.player.place → Counts x.player.place s t
    → TargetTurns tells x arena t y arena' u → Counts y.player.place s u
counts_then tells x y arena arena' s t u going was turns = record {
  device = counted_then s.device_faults t.device_faults u.device_faults (is_device_fault (place_fault x.player.place))
      (is_device_fault (place_fault y.player.place)) (ap is_device_fault (no_fault x.player.place going)) was.device turns.turns.device;
  store = counted_then s.store_faults t.store_faults u.store_faults (is_store_fault (place_fault x.player.place)) (is_store_fault (place_fault y.player.place))
      (ap is_store_fault (no_fault x.player.place going)) was.store turns.turns.store;
}

-- ---- a slot that has the turn

module _ {B : Type 0} (G : Ghosts B) (told : IsTrue G.tells) (a : Stand) (way : List Move) (s0 : BenchState) where
  target_then : (x : GangTarget) (mid new : Slot) (arena arena' : List (List ℕ)) (bench bench' : B) → Law G → IsReady G.tells mid arena (G.state bench)
      → TargetSince a way x s0 mid arena (G.state bench) → SlotTurns G mid arena bench new arena' bench'
      → TargetSince a way x s0 new arena' (G.state bench')
  target_then x mid new arena arena' bench bench' law ready since turns =
      let y : GangTarget = since.target in
      let goal : List ℕ = goal_for x.job x.player s0.file in
      let now : SlotTurns G (slot.Open y) arena bench new arena' bench' = subst (λ (m : Slot). SlotTurns G m arena bench new arena' bench') since.is turns in
      ⊎_elim
      (λ (ended : turn_of y.player.place ≡ turn.Ended).
      let still = now.ended ended in
      record {
        target = y;
        is = still.0;
        job = since.job;
        same = since.same;
        goes = subst (λ (b : B). GoesOn a way goal y.player arena' s0 (G.state b)) (sym still.2)
            (subst (λ (l : List (List ℕ)). GoesOn a way goal y.player l s0 (G.state bench)) (sym still.1) since.goes);
        file = λ going. absurd (over_going y.player.place ended going);
        files = subst (λ (b : B). history.GoesOn (file_half s0) (file_half (G.state b))) (sym still.2) since.files;
        guarded = λ body whole. subst (λ (b : B). Guarded body goal y.player.place s0 (G.state b)) (sym still.2) (since.guarded body whole);
        counts = subst (λ (b : B). Counts y.player.place s0 (G.state b)) (sym still.2) since.counts;
      })
      (λ (going : IsUnended y.player.place).
      let went : (z : GangTarget) × (new ≡ slot.Open z) × TargetTurns G.tells y arena (G.state bench) z arena' (G.state bench') = now.goes going in
      let lawful : Ready G.tells y arena (G.state bench) = (subst (λ (m : Slot). IsReady G.tells m arena (G.state bench)) since.is ready) going in
      let same : goal_for y.job y.player (G.state bench).file ≡ goal =
      ap (λ (j : Job). goal_for j y.player (G.state bench).file) since.job ∙ goal_same x.job x.player y.player (G.state bench).file since.same
      ∙ ap (λ (f : List ℕ). goal_for x.job x.player f) (since.file going) in
      let turn = turns_to G.tells (goal_for y.job y.player (G.state bench).file) goal y.player went.0.player arena arena' (G.state bench) (G.state bench')
      (λ told. same) went.2.turns in
      record {
        target = went.0;
        is = went.1;
        job = went.2.job ∙ since.job;
        same = same_then x.player y.player went.0.player since.same went.2.turns.same;
        goes = goes_then G.tells told a way goal y.player went.0.player arena arena' s0 (G.state bench) (G.state bench') since.goes turn;
        file = λ still.
            same_file G.tells told goal a (way ++ since.goes.more) y.player went.0.player arena arena' s0 (G.state bench) (G.state bench') [] lawful.fit
            (lawful.only told) (λ c. law bench c told) since.goes.stands turn still ∙ since.file going;
        files = moments.goes_then since.files (files_on G.tells told y.player.place went.0.player.place (G.state bench) (G.state bench') went.2.turns.file);
        guarded = λ body whole.
            guarded_then G.tells told goal a (way ++ since.goes.more) y.player went.0.player arena arena' s0 (G.state bench) (G.state bench') body lawful.fit
            (lawful.only told) (λ c. law bench c told) since.goes.stands turn going (since.guarded body whole);
        counts = counts_then G.tells y went.0 arena arena' s0 (G.state bench) (G.state bench') going since.counts went.2;
      })
      (either_turn y.player.place)

  pub since_then : (old mid new : Slot) (arena arena' : List (List ℕ)) (bench bench' : B) → Law G → IsReady G.tells mid arena (G.state bench)
      → SlotSince a way old s0 mid arena (G.state bench) → SlotTurns G mid arena bench new arena' bench'
      → SlotSince a way old s0 new arena' (G.state bench')
  since_then (slot.Refused e) mid new arena arena' bench bench' law ready since turns =
      let now : SlotTurns G (slot.Refused e) arena bench new arena' bench' = subst (λ (m : Slot). SlotTurns G m arena bench new arena' bench') since turns in
      (now.ended refl).0
  since_then (slot.Open x) mid new arena arena' bench bench' law ready since turns = target_then x mid new arena arena' bench bench' law ready since turns

  -- ---- a slot that doesn't have the turn

  same_window : (y : GangTarget) (mid : Slot) (arena arena' : List (List ℕ)) → mid ≡ slot.Open y → SameWindow mid arena arena'
      → window_of arena' y.player.window ≡ window_of arena y.player.window
  same_window y mid arena arena' is same = subst (λ (m : Slot). SameWindow m arena arena') is same

  pub since_other : (old mid new : Slot) (arena arena' : List (List ℕ)) (bench bench' : B) → SlotSince a way old s0 mid arena (G.state bench) → new ≡ mid
      → bench' ≡ bench → SameWindow mid arena arena'
      → SlotSince a way old s0 new arena' (G.state bench')
  since_other (slot.Refused e) mid new arena arena' bench bench' since same still window = same ∙ since
  since_other (slot.Open x) mid new arena arena' bench bench' since same still window =
      let y : GangTarget = since.target in
      let goal : List ℕ = goal_for x.job x.player s0.file in
      record {
        target = y;
        is = same ∙ since.is;
        job = since.job;
        same = since.same;
        goes = subst (λ (b : B). GoesOn a way goal y.player arena' s0 (G.state b)) (sym still)
            (goes_in a way goal y.player arena arena' s0 (G.state bench) (same_window y mid arena arena' since.is window) since.goes);
        file = λ going. ap (λ (b : B). (G.state b).file) still ∙ since.file going;
        files = subst (λ (b : B). history.GoesOn (file_half s0) (file_half (G.state b))) (sym still) since.files;
        guarded = λ body whole. subst (λ (b : B). Guarded body goal y.player.place s0 (G.state b)) (sym still) (since.guarded body whole);
        counts = subst (λ (b : B). Counts y.player.place s0 (G.state b)) (sym still) since.counts;
      }

-- ---- benches, whether or not they tell their contents

module _ {B : Type 0} (G : Ghosts B) where
  slot_kept : (x : Slot) (bench : B) → SlotKept G x bench x bench
  slot_kept (slot.Refused e) bench = (refl, refl)
  slot_kept (slot.Open x) bench = λ going. record { target = x; is = refl; job = refl; counts = counts_here x.player.place (G.state bench) going }

  target_kept : (x : GangTarget) (mid new : Slot) (arena arena' : List (List ℕ)) (first bench bench' : B) → TargetKept x (G.state first) mid (G.state bench)
      → SlotTurns G mid arena bench new arena' bench'
      → TargetKept x (G.state first) new (G.state bench')
  target_kept x mid new arena arena' first bench bench' kept turns =
      let y : GangTarget = kept.target in
      let now : SlotTurns G (slot.Open y) arena bench new arena' bench' = subst (λ (m : Slot). SlotTurns G m arena bench new arena' bench') kept.is turns in
      ⊎_elim
      (λ (ended : turn_of y.player.place ≡ turn.Ended).
      let still = now.ended ended in
      record {
        target = y;
        is = still.0;
        job = kept.job;
        counts = subst (λ (b : B). Counts y.player.place (G.state first) (G.state b))
            (sym still.2) kept.counts;
      })
      (λ (going : IsUnended y.player.place).
      let went : (z : GangTarget) × (new ≡ slot.Open z) × TargetTurns G.tells y arena (G.state bench) z arena' (G.state bench') = now.goes going in
      record {
        target = went.0;
        is = went.1;
        job = went.2.job ∙ kept.job;
        counts = counts_then G.tells y went.0 arena arena' (G.state first) (G.state bench) (G.state bench') going kept.counts went.2;
      })
      (either_turn y.player.place)

  kept_then : (old mid new : Slot) (arena arena' : List (List ℕ)) (first bench bench' : B) → SlotKept G old first mid bench
      → SlotTurns G mid arena bench new arena' bench' → SlotKept G old first new bench'
  kept_then (slot.Refused e) mid new arena arena' first bench bench' kept turns =
      let now : SlotTurns G (slot.Refused e) arena bench new arena' bench' = subst (λ (m : Slot). SlotTurns G m arena bench new arena' bench') kept.0 turns in
      let still = now.ended refl in
      (still.0, still.2 ∙ kept.1)
  kept_then (slot.Open x) mid new arena arena' first bench bench' kept turns =
      λ going. target_kept x mid new arena arena' first bench bench' (kept going) turns

  kept_other : (old mid new : Slot) (first bench bench' : B) → SlotKept G old first mid bench → new ≡ mid → bench' ≡ bench → SlotKept G old first new bench'
  kept_other old mid new first bench bench' kept same still =
      subst (λ (m : Slot). SlotKept G old first m bench') (sym same) (subst (λ (b : B). SlotKept G old first mid b) (sym still) kept)

  pub kept_here : (g : Gang) (benches : List B) → AllKept G g benches g benches
  kept_here g benches i d less = slot_kept (slot_at g i) (get_or benches i d)

  pub kept_turn : (old mid new : Gang) (benches between after : List B) (target : ℕ) → AllKept G old benches mid between
      → OneTurn G target mid between new after → AllKept G old benches new after
  kept_turn old mid new benches between after target kept turn i d less = ⊎_elim
      (λ (at : i ≡ target). kept_then (slot_at old i) (slot_at mid i) (slot_at new i) mid.arena new.arena (get_or benches i d) (get_or between i d)
      (get_or after i d) (kept i d less)
      (subst (λ (n : ℕ). SlotTurns G (slot_at mid n) mid.arena (get_or between n d) (slot_at new n) new.arena (get_or after n d)) (sym at) (turn.turns d)))
      (λ (other : i ≢ target). kept_other (slot_at old i) (slot_at mid i) (slot_at new i) (get_or benches i d) (get_or between i d) (get_or after i d)
      (kept i d less) (turn.slots i other) (turn.others i d other))
      (cases_eq i target)

-- a target that hadn't ended and took a turn
pub slot_went : {B : Type 0} (G : Ghosts B) (self : Slot) (x y : GangTarget) (t : Turn) (arena arena' : List (List ℕ)) (bench bench' : B) → self ≡ slot.Open x
    → t ≡ turn_of x.player.place → t ≡ turn.More
    → y.job ≡ x.job → Turns G.tells (goal_for x.job x.player (G.state bench).file) x.player arena (G.state bench) y.player arena' (G.state bench')
    → SlotTurns G self arena bench (slot.Open y) arena' bench'
slot_went {B} G self x y t arena arena' bench bench' is state more job went =
    let P : Slot → Type 0 = λ z. SlotTurns G z arena bench (slot.Open y) arena' bench' in
    subst P (sym is) (record {
      ended = λ over. let e : turn.More ≡ turn.Ended = sym more ∙ state ∙ over in cc;
      goes = λ going. (y, refl, record { job = job; turns = went });
    })

pub slot_took : (tells : Bool) (steps : ℕ) (self : Slot) (x y : GangTarget) (arena arena' : List (List ℕ)) (s t : BenchState) → self ≡ slot.Open x
    → TakesOn steps s.cell_count x.player.place y.player.place
    → SliceOf tells (goal_for x.job x.player s.file) steps x.player.place x.player arena s y.player arena' t
    → SlotTakes tells steps self arena s (slot.Open y) arena' t
slot_took tells steps self x y arena arena' s t is takes slices = subst (λ (z : Slot). SlotTakes tells steps z arena s (slot.Open y) arena' t) (sym is)
    (λ going. (y, refl, takes, slices))

-- a target that has ended does nothing in its turn
pub slot_rests : (tells : Bool) (steps : ℕ) (self new : Slot) (x : GangTarget) (state : Turn) (arena arena' : List (List ℕ)) (s t : BenchState)
    → self ≡ slot.Open x → state ≡ turn_of x.player.place → state ≡ turn.Ended → SlotTakes tells steps self arena s new arena' t
slot_rests tells steps self new x state arena arena' s t is shown over = subst (λ (z : Slot). SlotTakes tells steps z arena s new arena' t) (sym is)
    (λ going. absurd (over_going x.player.place (sym shown ∙ over) going))

pub going_of : (p : Place) → turn_of p ≡ turn.More → IsUnended p
going_of (place.Ended e) more = cc
going_of p more = tt

-- a target that hasn't ended is ready
pub ready_more : (tells : Bool) (self : Slot) (x : GangTarget) (state : Turn) (arena : List (List ℕ)) (b : BenchState) → self ≡ slot.Open x
    → state ≡ turn_of x.player.place → state ≡ turn.More → IsReady tells self arena b → Ready tells x arena b
ready_more tells self x state arena b is shown more ready =
    subst (λ (z : Slot). IsReady tells z arena b) is ready (going_of x.player.place (sym shown ∙ more))

-- ---- what a turn keeps

-- the window of a slot, if it has one, is still its window
abbrev pub KeepsWindow : Slot → Slot → Type 0
KeepsWindow (slot.Refused e) new = new ≡ slot.Refused e
KeepsWindow (slot.Open x) new = (y : GangTarget) × (new ≡ slot.Open y) × (y.player.window ≡ x.player.window)

other_from : (x y : GangTarget) (q : Slot) → y.player.window ≡ x.player.window → OtherWindow (slot.Open x) q → OtherWindow (slot.Open y) q
other_from x y (slot.Refused e) same other = tt
other_from x y (slot.Open z) same other = λ is. other (sym same ∙ is)

pub other_left : (old new q : Slot) → KeepsWindow old new → OtherWindow old q → OtherWindow new q
other_left (slot.Refused e) new q kept other = subst (λ (m : Slot). OtherWindow m q) (sym kept) tt
other_left (slot.Open x) new q kept other = subst (λ (m : Slot). OtherWindow m q) (sym kept.1) (other_from x kept.0 q kept.2 other)

other_to : (p : Slot) (x y : GangTarget) → y.player.window ≡ x.player.window → OtherWindow p (slot.Open x) → OtherWindow p (slot.Open y)
other_to (slot.Refused e) x y same other = tt
other_to (slot.Open z) x y same other = λ is. other (is ∙ same)

other_none : (p : Slot) (e : TargetEnd) → OtherWindow p (slot.Refused e)
other_none (slot.Refused f) e = tt
other_none (slot.Open z) e = tt

pub other_right : (p old new : Slot) → KeepsWindow old new → OtherWindow p old → OtherWindow p new
other_right p (slot.Refused e) new kept other = subst (λ (m : Slot). OtherWindow p m) (sym kept) (other_none p e)
other_right p (slot.Open x) new kept other = subst (λ (m : Slot). OtherWindow p m) (sym kept.1) (other_to p x kept.0 kept.2 other)

only_count : (w : ℕ) (arena arena' : List (List ℕ)) → OnlyIn w arena arena' → length arena' ≡ length arena
only_count w arena arena' only = ap (λ (l : List (List ℕ)). length l) only ∙ length-set arena w (window_of arena' w)

module _ {B : Type 0} (G : Ghosts B) (arena arena' : List (List ℕ)) (bench bench' : B) where
  -- one turn of a slot over this arena and this bench
  abbrev Turned : Slot → Slot → Type 0
  Turned x y = SlotTurns G x arena bench y arena' bench'

  pub keeps_window : (x y : Slot) → Turned x y → KeepsWindow x y
  keeps_window (slot.Refused e) y turns = (turns.ended refl).0
  keeps_window (slot.Open x) y turns = ⊎_elim
      (λ (over : turn_of x.player.place ≡ turn.Ended). (x, (turns.ended over).0, refl))
      (λ (going : IsUnended x.player.place). let went = turns.goes going in (went.0, went.1, went.2.turns.same.window))
      (either_turn x.player.place)

  pub keeps_count : (x y : Slot) → Turned x y → length arena' ≡ length arena
  keeps_count (slot.Refused e) y turns = ap (λ (l : List (List ℕ)). length l) (turns.ended refl).1
  keeps_count (slot.Open x) y turns = ⊎_elim
      (λ (over : turn_of x.player.place ≡ turn.Ended). ap (λ (l : List (List ℕ)). length l) (turns.ended over).1)
      (λ (going : IsUnended x.player.place). only_count x.player.window arena arena' (turns.goes going).2.turns.only)
      (either_turn x.player.place)

  same_ram : (w : ℕ) → arena' ≡ arena → window_of arena' w ≡ window_of arena w
  same_ram w same = ap (λ (l : List (List ℕ)). window_of l w) same

  pub other_window : (x y q : Slot) → Turned x y → OtherWindow x q → SameWindow q arena arena'
  other_window x y (slot.Refused e) turns other = tt
  other_window (slot.Refused e) y (slot.Open z) turns other = same_ram z.player.window (turns.ended refl).1
  other_window (slot.Open x) y (slot.Open z) turns other = ⊎_elim
      (λ (over : turn_of x.player.place ≡ turn.Ended). same_ram z.player.window (turns.ended over).1)
      (λ (going : IsUnended x.player.place). other_stays arena arena' x.player.window z.player.window (turns.goes going).2.turns.only
      (λ same. other (sym same)))
      (either_turn x.player.place)

  pub slot_nearer : (x y : Slot) → Turned x y → slot_turn x ≡ turn.More → slot_togo y < slot_togo x
  slot_nearer (slot.Refused e) y turns more = cc
  slot_nearer (slot.Open x) y turns more = let went = turns.goes (going_of x.player.place more) in
      subst (λ (m : Slot). slot_togo m < togo x.player) (sym went.1) went.2.turns.nearer

  pub slot_no_further : (x y : Slot) → Turned x y → slot_togo y ≤ slot_togo x
  slot_no_further (slot.Refused e) y turns = subst (λ (m : Slot). slot_togo m ≤ 0) (sym (turns.ended refl).0) (omega arith)
  slot_no_further (slot.Open x) y turns = ⊎_elim
      (λ (over : turn_of x.player.place ≡ turn.Ended). subst (λ (m : Slot). slot_togo m ≤ togo x.player) (sym (turns.ended over).0) (omega arith))
      (λ (going : IsUnended x.player.place). let went = turns.goes going in
      subst (λ (m : Slot). slot_togo m ≤ togo x.player) (sym went.1) (omega (arith, went.2.turns.nearer)))
      (either_turn x.player.place)

  -- a target that goes on leaves the file alone
  still_ready : (x y : GangTarget) (s t : BenchState) → Ready G.tells x arena s → TargetTurns G.tells x arena s y arena' t → IsUnended y.player.place
      → Ready G.tells y arena' t
  still_ready x y s t ready turns going = by_place x.player.place refl
    where
      by_read : FileIsRead G.tells s t → Ready G.tells y arena' t
      by_read read = record {
        fit = turns.turns.fit;
        size = ap (λ (j : Job). size_of j.board.regions) turns.job ∙ ready.size ∙ sym (size_same x.player y.player turns.turns.same);
        stands = λ told. subst (λ (f : List ℕ). StandsFor y.job f) (sym (read.file told))
            (subst (λ (k : Job). StandsFor k s.file) (sym turns.job) (ready.stands told));
        only = λ told. subst (λ (f : List ℕ). LeftOnly f (file_half t)) (sym (read.file told)) (still_only s.file read.moments (ready.only told));
      }

      by : (p : Place) → x.player.place ≡ p → FileTurn G.tells p y.player.place s t
      by p is = subst (λ (q : Place). FileTurn G.tells q y.player.place s t) is turns.turns.file

      by_place : (p : Place) → x.player.place ≡ p → Ready G.tells y arena' t
      by_place (place.At c) is = by_read (by (place.At c) is).read
      by_place (place.In call len left next) is = by_read (by (place.In call len left next) is).read
      by_place (place.Comparing at) is = by_read (by (place.Comparing at) is).read
      by_place place.Closing is = absurd (over_going y.player.place (by place.Closing is).over going)
      by_place (place.Ended e) is = by_read (by (place.Ended e) is).read

  -- the end of a target with a script is one of its script
  place_lawful : (has : Bool) (moved : RegionIndex) (p : Place) (size : ℕ) (b : BenchState) → IsPlace G.tells has moved p size b → EndsByScript p
  place_lawful has moved (place.Ended e) size b is = of_script G.tells size e b is
  place_lawful has moved p size b is = tt

  pub slot_lawful : (x y : Slot) → IsSlot x → Turned x y → IsSlot y
  slot_lawful (slot.Refused e) y is turns = subst IsSlot (sym (turns.ended refl).0) is
  slot_lawful (slot.Open x) y is turns = ⊎_elim
      (λ (over : turn_of x.player.place ≡ turn.Ended). subst IsSlot (sym (turns.ended over).0) is)
      (λ (going : IsUnended x.player.place).
      let went = turns.goes going in
      subst IsSlot (sym went.1) (place_lawful (has_second went.0.player) went.0.player.moved went.0.player.place (size_for went.0.player)
      (G.state bench') went.2.turns.fit.place))
      (either_turn x.player.place)

  pub ready_then : (x y : Slot) → IsReady G.tells x arena (G.state bench) → Turned x y → IsReady G.tells y arena' (G.state bench')
  ready_then (slot.Refused e) y ready turns = subst (λ (m : Slot). IsReady G.tells m arena' (G.state bench')) (sym (turns.ended refl).0) tt
  ready_then (slot.Open x) y ready turns = ⊎_elim
      (λ (over : turn_of x.player.place ≡ turn.Ended). subst (λ (m : Slot). IsReady G.tells m arena' (G.state bench')) (sym (turns.ended over).0)
      (λ going. absurd (over_going x.player.place over going)))
      (λ (going : IsUnended x.player.place).
      let went = turns.goes going in
      subst (λ (m : Slot). IsReady G.tells m arena' (G.state bench')) (sym went.1)
      (λ still. still_ready x went.0 (G.state bench) (G.state bench') (ready going) went.2 still))
      (either_turn x.player.place)

-- a target fits a new arena as long as its own window is unchanged
fit_in : (tells : Bool) (x : Player) (arena arena' : List (List ℕ)) (b : BenchState) → window_of arena' x.window ≡ window_of arena x.window
    → length arena' ≡ length arena → Fit tells x arena b → Fit tells x arena' b
fit_in tells x arena arena' b same count fit = record {
  scripted = fit.scripted;
  fits = (omega (arith, count, fit.fits.0), ap (λ (l : List ℕ). length l) same ∙ fit.fits.1);
  agrees = fit.agrees;
  wanted = fit.wanted;
  some = fit.some;
  place = fit.place;
  room = fit.room;
}

pub ready_other : (tells : Bool) (q : Slot) (arena arena' : List (List ℕ)) (b : BenchState) → SameWindow q arena arena' → length arena' ≡ length arena
    → IsReady tells q arena b → IsReady tells q arena' b
ready_other tells (slot.Refused e) arena arena' b same count ready = tt
ready_other tells (slot.Open x) arena arena' b same count ready = λ going. let r = ready going in
    record { fit = fit_in tells x.player arena arena' b same count r.fit; size = r.size; stands = r.stands; only = r.only }

-- ---- a whole gang

module _ {B : Type 0} (G : Ghosts B) (old new : Gang) (benches : List B) (i : ℕ) (x y : Slot) (b b' : B) (within : i < length old.slots.items)
    (inside : i < length benches)
    (is_slot : x ≡ get_or old.slots.items i x) (is_bench : b ≡ get_or benches i b) (slots : new.slots.items ≡ set old.slots.items i y)
    (turns : SlotTurns G x old.arena b y new.arena b') (gang : IsGang old) where
  abbrev benches' : List B
  benches' = set benches i b'

  slot_was : slot_at old i ≡ x
  slot_was = sym (get_or_read old.slots.items i x within is_slot (slot.Refused (ended.Survey survey.StoreFault)))

  bench_was : (d : B) → get_or benches i d ≡ b
  bench_was d = sym (get_or_read benches i b inside is_bench d)

  slot_is : slot_at new i ≡ y
  slot_is = ap (λ (l : List Slot). get_or l i (slot.Refused (ended.Survey survey.StoreFault))) slots
      ∙ get_or-set_same old.slots.items i y (slot.Refused (ended.Survey survey.StoreFault)) within

  bench_is : (d : B) → get_or benches' i d ≡ b'
  bench_is d = get_or-set_same benches i b' d inside

  slot_other : (j : ℕ) → j ≢ i → slot_at new j ≡ slot_at old j
  slot_other j other = ap (λ (l : List Slot). get_or l j (slot.Refused (ended.Survey survey.StoreFault))) slots
      ∙ get_or-set_other old.slots.items i j y (slot.Refused (ended.Survey survey.StoreFault)) other

  bench_other : (j : ℕ) (d : B) → j ≢ i → get_or benches' j d ≡ get_or benches j d
  bench_other j d other = get_or-set_other benches i j b' d other

  apart_was : (j : ℕ) → j ≢ i → OtherWindow x (slot_at old j)
  apart_was j other = subst (λ (m : Slot). OtherWindow m (slot_at old j)) slot_was (gang.apart i j (λ is. other (sym is)))

  window_other : (j : ℕ) → j ≢ i → SameWindow (slot_at old j) old.arena new.arena
  window_other j other = other_window G old.arena new.arena b b' x y (slot_at old j) turns (apart_was j other)

  sums : gang_togo new + slot_togo x ≡ gang_togo old + slot_togo y
  sums = ap (λ (l : List Slot). sum_by slot_togo l + slot_togo x) slots
      ∙ ap (λ (m : Slot). sum_by slot_togo (set old.slots.items i y) + slot_togo m) (sym slot_was)
      ∙ sum_by-set slot_togo old.slots.items i y (slot.Refused (ended.Survey survey.StoreFault)) within

  turned_at : (d : B) → SlotTurns G (slot_at old i) old.arena (get_or benches i d) (slot_at new i) new.arena (get_or benches' i d)
  turned_at d =
      subst (λ (m : Slot). SlotTurns G m old.arena (get_or benches i d) (slot_at new i) new.arena (get_or benches' i d)) (sym slot_was)
      (subst (λ (c : B). SlotTurns G x old.arena c (slot_at new i) new.arena (get_or benches' i d)) (sym (bench_was d))
      (subst (λ (m : Slot). SlotTurns G x old.arena b m new.arena (get_or benches' i d)) (sym slot_is)
      (subst (λ (c : B). SlotTurns G x old.arena b y new.arena c) (sym (bench_is d)) turns)))

  pub takes_at : (steps : ℕ) → SlotTakes G.tells steps x old.arena (G.state b) y new.arena (G.state b') → (d : B)
      → SlotTakes G.tells steps (slot_at old i) old.arena (G.state (get_or benches i d)) (slot_at new i) new.arena (G.state (get_or benches' i d))
  takes_at steps takes d =
      subst (λ (m : Slot). SlotTakes G.tells steps m old.arena (G.state (get_or benches i d)) (slot_at new i) new.arena (G.state (get_or benches' i d)))
      (sym slot_was)
      (subst (λ (c : B). SlotTakes G.tells steps x old.arena (G.state c) (slot_at new i) new.arena (G.state (get_or benches' i d))) (sym (bench_was d))
      (subst (λ (m : Slot). SlotTakes G.tells steps x old.arena (G.state b) m new.arena (G.state (get_or benches' i d))) (sym slot_is)
      (subst (λ (c : B). SlotTakes G.tells steps x old.arena (G.state b) y new.arena (G.state c)) (sym (bench_is d)) takes)))

  pub one_turn : OneTurn G i old benches new benches'
  one_turn = record {
    turns = turned_at;
    slots = slot_other;
    others = bench_other;
    windows = window_other;
    count = length-set benches i b';
    places = ap (λ (l : List Slot). length l) slots ∙ length-set old.slots.items i y;
    over = λ ended. ap slot_turn (slot_is ∙ (turns.ended (ap slot_turn (sym slot_was) ∙ ended)).0 ∙ sym slot_was) ∙ ended;
    nearer = λ more. omega (arith, sums, slot_nearer G old.arena new.arena b b' x y turns (ap slot_turn (sym slot_was) ∙ more));
    no_further = omega (arith, sums, slot_no_further G old.arena new.arena b b' x y turns);
  }

  kept : KeepsWindow x y
  kept = keeps_window G old.arena new.arena b b' x y turns

  apart_now : (j k : ℕ) → j ≢ k → OtherWindow (slot_at new j) (slot_at new k)
  apart_now j k other = ⊎_elim
      (λ (at_j : j ≡ i).
      let not_k : k ≢ i = λ is. other (at_j ∙ sym is) in
      subst (λ (m : Slot). OtherWindow m (slot_at new k)) (sym (ap (slot_at new) at_j ∙ slot_is))
      (subst (λ (m : Slot). OtherWindow y m) (sym (slot_other k not_k)) (other_left x y (slot_at old k) kept (apart_was k not_k))))
      (λ (not_j : j ≢ i). ⊎_elim
      (λ (at_k : k ≡ i).
      subst (λ (m : Slot). OtherWindow (slot_at new j) m) (sym (ap (slot_at new) at_k ∙ slot_is))
      (subst (λ (m : Slot). OtherWindow m y) (sym (slot_other j not_j))
      (other_right (slot_at old j) x y kept (subst (λ (m : Slot). OtherWindow (slot_at old j) m) slot_was (gang.apart j i not_j)))))
      (λ (not_k : k ≢ i). subst (λ (m : Slot). OtherWindow m (slot_at new k)) (sym (slot_other j not_j))
      (subst (λ (m : Slot). OtherWindow (slot_at old j) m) (sym (slot_other k not_k)) (gang.apart j k other)))
      (cases_eq k i))
      (cases_eq j i)

  slots_now : (j : ℕ) → IsSlot (slot_at new j)
  slots_now j = ⊎_elim
      (λ (at : j ≡ i). subst IsSlot (sym (ap (slot_at new) at ∙ slot_is))
      (slot_lawful G old.arena new.arena b b' x y (subst IsSlot slot_was (gang.slots i)) turns))
      (λ (other : j ≢ i). subst IsSlot (sym (slot_other j other)) (gang.slots j))
      (cases_eq j i)

  pub gang_now : IsGang new
  gang_now = record { apart = apart_now; slots = slots_now }

  pub ready_now : AreReady G old benches → AreReady G new benches'
  ready_now ready j d less = ⊎_elim
      (λ (at : j ≡ i).
      subst (λ (m : Slot). IsReady G.tells m new.arena (G.state (get_or benches' j d))) (sym (ap (slot_at new) at ∙ slot_is))
      (subst (λ (c : B). IsReady G.tells y new.arena (G.state c)) (sym (ap (λ (n : ℕ). get_or benches' n d) at ∙ bench_is d))
      (ready_then G old.arena new.arena b b' x y
      (subst (λ (m : Slot). IsReady G.tells m old.arena (G.state b)) slot_was
      (subst (λ (c : B). IsReady G.tells (slot_at old i) old.arena (G.state c)) (bench_was d) (ready i d inside))) turns)))
      (λ (other : j ≢ i).
      subst (λ (m : Slot). IsReady G.tells m new.arena (G.state (get_or benches' j d))) (sym (slot_other j other))
      (subst (λ (c : B). IsReady G.tells (slot_at old j) new.arena (G.state c)) (sym (bench_other j d other))
      (ready_other G.tells (slot_at old j) old.arena new.arena (G.state (get_or benches j d)) (window_other j other)
      (keeps_count G old.arena new.arena b b' x y turns) (ready j d (omega (arith, less, length-set benches i b'))))))
      (cases_eq j i)

-- ---- turns, one after the other

pub since_here : {B : Type 0} (G : Ghosts B) (g : Gang) (benches : List B) → Law G
    → AreReady G g benches → AllSince G g benches g benches
since_here {B} G g benches law ready i d a way less told stands = first (slot_at g i) (ready i d less) stands
  where
    first : (x : Slot) → IsReady G.tells x g.arena (G.state (get_or benches i d)) → SlotStands a way x g.arena (G.state (get_or benches i d))
        → SlotSince a way x (G.state (get_or benches i d)) x g.arena (G.state (get_or benches i d))
    first (slot.Refused e) lawful stands = refl
    first (slot.Open x) lawful stands =
        let s = G.state (get_or benches i d) in
        record {
          target = x;
          is = refl;
          job = refl;
          same = same_here x.player;
          goes = goes_here G.tells told a way (goal_for x.job x.player s.file) x.player g.arena s stands.0 (lawful stands.0).fit
              (λ c. law (get_or benches i d) c told) stands.1;
          file = λ going. refl;
          files = moments.goes_here (file_half s);
          guarded = λ body whole. guarded_here body (goal_for x.job x.player s.file) x.player.place s stands.0 whole ((lawful stands.0).only told);
          counts = counts_here x.player.place s stands.0;
        }

pub since_turn : {B : Type 0} (G : Ghosts B) (old mid new : Gang) (benches between after : List B) (target : ℕ) → length between ≡ length benches → Law G
    → AreReady G mid between → AllSince G old benches mid between → OneTurn G target mid between new after → AllSince G old benches new after
since_turn {B} G old mid new benches between after target long law ready since turn i d a way less told stands =
    let was = since i d a way less told stands in
    let s0 = G.state (get_or benches i d) in ⊎_elim
    (λ (at : i ≡ target). since_then G told a way s0 (slot_at old i) (slot_at mid i) (slot_at new i) mid.arena new.arena (get_or between i d)
    (get_or after i d) law (ready i d (omega (arith, less, long))) was
    (subst (λ (n : ℕ). SlotTurns G (slot_at mid n) mid.arena (get_or between n d) (slot_at new n) new.arena (get_or after n d)) (sym at) (turn.turns d)))
    (λ (other : i ≢ target). since_other G told a way s0 (slot_at old i) (slot_at mid i) (slot_at new i) mid.arena new.arena (get_or between i d)
    (get_or after i d) was (turn.slots i other) (turn.others i d other) (turn.windows i other))
    (cases_eq i target)

pub playing_on : {B : Type 0} (G : Ghosts B) (old mid new : Gang) (benches between after : List B) (target : ℕ) → Law G → Playing G old benches mid between
    → OneTurn G target mid between new after → IsGang new → AreReady G new after
    → Playing G old benches new after
playing_on G old mid new benches between after target law was turn gang ready = record {
  gang = gang;
  places = turn.count ∙ was.places ∙ sym turn.places;
  count = turn.count ∙ was.count;
  ready = ready;
  since = since_turn G old mid new benches between after target was.count law was.ready was.since turn;
  kept = kept_turn G old mid new benches between after target was.kept turn;
}

pub playing_here : {B : Type 0} (G : Ghosts B) (g : Gang) (benches : List B) → Law G
    → IsGang g → length benches ≡ length g.slots.items → AreReady G g benches → Playing G g benches g benches
playing_here G g benches law gang places ready = record {
  gang = gang;
  places = places;
  count = refl;
  ready = ready;
  since = since_here G g benches law ready;
  kept = kept_here G g benches;
}

-- two lists of turns, one after the other, are the turns of both lists
gives_both : {B : Type 0} (G : Ghosts B) (asked more : List Asked) (old mid new : Gang) (benches between after : List B)
    → GivesTurns G asked old benches mid between → GivesTurns G more mid between new after
    → GivesTurns G (asked ++ more) old benches new after
gives_both {B} G [] more old mid new benches between after was then =
    subst (λ (g : Gang). GivesTurns G more g benches new after) was.0 (subst (λ (b : List B). GivesTurns G more mid b new after) was.1 then)
gives_both G (first ∷ rest) more old mid new benches between after was then =
    (was.0, was.1, was.2, gives_both G rest more was.0 mid new was.1 between after was.3 then)

-- a list of turns and one turn more are the turns of the longer list
gives_then : {B : Type 0} (G : Ghosts B) (asked : List Asked) (next : Asked) (old mid new : Gang) (benches between after : List B)
    → GivesTurns G asked old benches mid between → GivesTurn G next mid between new after
    → GivesTurns G (asked ++ next ∷ []) old benches new after
gives_then G asked next old mid new benches between after was one = gives_both G asked (next ∷ []) old mid new benches between after was
    (new, after, one, (refl, refl))

-- the first `i` turns of a list and the next one are its first `i + 1`
pub gives_on : {B : Type 0} (G : Ghosts B) (asked : List Asked) (i : ℕ) (d : Asked) (old mid new : Gang) (benches between after : List B) → i < length asked
    → GivesTurns G (take i asked) old benches mid between
    → GivesTurn G (get_or asked i d) mid between new after → GivesTurns G (take (i + 1) asked) old benches new after
gives_on G asked i d old mid new benches between after less was one =
    subst (λ (l : List Asked). GivesTurns G l old benches new after) (sym (take_more asked i d less))
    (gives_then G (take i asked) (get_or asked i d) old mid new benches between after was one)

-- ---- a round

more_or_ended : (t : Turn) → (t ≡ turn.More) ⊎ (t ≡ turn.Ended)
more_or_ended turn.More = inl refl
more_or_ended turn.Ended = inr refl

pub round_here : {B : Type 0} (G : Ghosts B) (g : Gang) (benches : List B) → IsGang g → length benches ≡ length g.slots.items → AreReady G g benches
    → Rounding G g benches g benches 0 false
round_here G g benches gang places ready = record {
  gang = gang;
  places = places;
  count = refl;
  ready = ready;
  plays = λ h first plays. plays;
  nearer = λ on. cc;
  no_further = omega arith;
  ended = λ off i less. absurd (omega (arith, less));
}

pub round_on : {B : Type 0} (G : Ghosts B) (old mid new : Gang) (benches between after : List B) (target : ℕ) (before now : Bool) (t : Turn) → Law G
    → Rounding G old benches mid between target before → OneTurn G target mid between new after
    → IsGang new → AreReady G new after → t ≡ slot_turn (slot_at new target) → (t ≡ turn.More → now ≡ true) → (t ≡ turn.Ended → now ≡ before)
    → Rounding G old benches new after (target + 1) now
round_on {B} G old mid new benches between after target before now t law was one gang ready is on off = record {
  gang = gang;
  places = one.count ∙ was.places ∙ sym one.places;
  count = one.count ∙ was.count;
  ready = ready;
  plays = λ g first plays. playing_on G g mid new first between after target law (was.plays g first plays) one gang ready;
  nearer = nearer (more_or_ended t);
  no_further = omega (arith, was.no_further, one.no_further);
  ended = ended (more_or_ended t);
}
  where
    still_more : t ≡ turn.More → (slot_turn (slot_at mid target) ≡ turn.More) ⊎ (slot_turn (slot_at mid target) ≡ turn.Ended) → gang_togo new < gang_togo old
    still_more more (inl going) = omega (arith, was.no_further, one.nearer going)
    still_more more (inr over) = let e : turn.More ≡ turn.Ended = sym more ∙ is ∙ one.over over in cc

    nearer : (t ≡ turn.More) ⊎ (t ≡ turn.Ended) → now ≡ true → gang_togo new < gang_togo old
    nearer (inl more) yes_ = still_more more (more_or_ended (slot_turn (slot_at mid target)))
    nearer (inr over) yes_ = omega (arith, was.nearer (sym (off over) ∙ yes_), one.no_further)

    ended : (t ≡ turn.More) ⊎ (t ≡ turn.Ended) → now ≡ false → (i : ℕ) → i < target + 1 → slot_turn (slot_at new i) ≡ turn.Ended
    ended (inl more) off_ i less = let e : true ≡ false = sym (on more) ∙ off_ in cc
    ended (inr over) off_ i less = ⊎_elim
        (λ (at : i ≡ target). ap (λ (n : ℕ). slot_turn (slot_at new n)) at ∙ sym is ∙ over)
        (λ (other : i ≢ target). ap slot_turn (one.slots i other) ∙ was.ended (sym (off over) ∙ off_) i (below i less other))
        (cases_eq i target)
      where
        below : (i : ℕ) → i < target + 1 → i ≢ target → i < target
        below i less other = ⊎_elim (λ (l : i < target). l) (λ (l : target ≤ i). absurd (other (omega (arith, l, less)))) (cases_lt i target)

-- the turns of a round so far, and that of the next target
pub round_then : {B : Type 0} (G : Ghosts B) (steps target : ℕ) (old mid new : Gang) (benches between after : List B)
    → GivesTurns G (one_round steps target) old benches mid between → GivesTurn G (record { target = target; steps = steps }) mid between new after
    → GivesTurns G (one_round steps (target + 1)) old benches new after
round_then G steps target old mid new benches between after was one =
    let next : suc target ≡ target + 1 = omega arith in
    subst (λ (n : ℕ). GivesTurns G (one_round steps n) old benches new after) next
    (gives_then G (one_round steps target) (record { target = target; steps = steps }) old mid new benches between after was one)

-- whole rounds and one more round are whole rounds
pub round_more : {B : Type 0} (G : Ghosts B) (steps : ℕ) (old mid new : Gang) (benches between after : List B) → length between ≡ length benches
    → GivesRounds G steps old benches mid between
    → GivesTurns G (one_round steps (length between)) mid between new after → GivesRounds G steps old benches new after
round_more G steps old mid new benches between after count was round = (
  suc was.0,
  gives_both G (rounds_of steps (length benches) was.0) (one_round steps (length benches)) old mid new benches between after was.1
      (subst (λ (n : ℕ). GivesTurns G (one_round steps n) mid between new after) count round),
)

-- ---- a target that has ended

pub ended_at : (p : Place) → turn_of p ≡ turn.Ended → (e : TargetEnd) × (p ≡ place.Ended e)
ended_at (place.Ended e) over = (e, refl)
ended_at p over = cc

pub alone_of : (a : Stand) (x : GangTarget) (s : BenchState) (new : Slot) (arena : List (List ℕ)) (t : BenchState) (body : List ℕ) → IsWhole body s.file
    → SlotSince a [] (slot.Open x) s new arena t → slot_turn new ≡ turn.Ended
    → EndsAlone a x s new t body
alone_of a x s new arena t body whole since over =
    let y : GangTarget = since.target in
    let goal : List ℕ = goal_for x.job x.player s.file in
    let ends : (e : TargetEnd) × (y.player.place ≡ place.Ended e) = ended_at y.player.place (ap slot_turn (sym since.is) ∙ over) in
    let goes : GoesOn a [] goal y.player arena s t = since.goes in
    let has : HasEnded (all_legs (legs_for y.player goal)) goal a goes.more ends.0 t =
    subst (λ (p : Place). Stands (legs_for y.player goal) goal (setup_now y.player) a goes.more p y.player.made (point_for y.player arena t.cells)
    y.player.calls.machine.return_at t) ends.1 goes.stands in
    let guarded : Guarded body goal (place.Ended ends.0) s t = subst (λ (p : Place). Guarded body goal p s t) ends.1 (since.guarded body whole) in
    record {
      target = y;
      is = since.is;
      end = ends.0;
      place_is = ends.1;
      follows = subst (λ (l : Legs). FollowsAs (all_legs l) goal a ends.0 s t) (legs_same x.player y.player since.same goal)
          (ends_alone (all_legs (legs_for y.player goal)) goal a goes.more s t goes.moments ends.0 has);
      file = guarded.file;
      idle = λ done. guarded.idle (ap (λ (e : TargetEnd). place.Ended e) done);
      pairs = let over = guarded.over refl in (over.0, over.1, over.2 ends.0 refl);
      counts = subst (λ (p : Place). Counts p s t) ends.1 since.counts;
    }

-- ---- the job

job_by : (p : Place) (j : Bor Job) → EndsByScript p → HasJob (place_end p) (Some j)
job_by (place.Ended (ended.Open fault)) j is = absurd is
job_by (place.Ended (ended.Survey fault)) j is = absurd is
job_by p j is = refl

no_job_by : (e : TargetEnd) → IsRefusal e → HasJob (Some e) None
no_job_by (ended.Open fault) is = tt
no_job_by (ended.Survey fault) is = tt
no_job_by e is = absurd is

pub job_exact : (s : Slot) (found : Option (Bor Job)) → IsSlot s → IsSlotJob s found → HasJob (slot_end s) found
job_exact (slot.Refused e) None is job = no_job_by e is
job_exact (slot.Open x) (Some j) is job = job_by x.player.place j is
job_exact s found is job = absurd job
