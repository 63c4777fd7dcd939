-- The turns of a target, each by the contracts of the calls that it makes.
use Rattle.std.proofs.Common.{◌≡◌, ◌≢◌, ◌<◌, ◌≤◌, ◌+◌, ◌-◌, ◌^◌, ◌∙◌, ◌↔◌, ℕ, Bool, true, false, cond, nat_eq, IsTrue, List, [], ◌∷◌, ◌++◌, length, take, drop}
use Rattle.std.proofs.Common.{Option, Some, None, Result, Ok, refl, sym, ap, subst, arith}
use Rattle.std.proofs.lemmas.List.{append-nil}
use Rattle.faults.specs.Counts.{Rose}
use Rattle.bench_model.specs.History.{left, Leaves}
use Rattle.bench_model.specs.State.{BenchState, file_half, cells_half, SameOutside}
use Rattle.bench_model.specs.Calls.{CellsStay, OnlyReads, IsRead, FileIsRead}
use Rattle.bench_model.specs.Counted.{is_store_fault, is_device_fault, IsCounted}
use Rattle.bench_model.specs.Does.{StaysOpen}
use Rattle.bench_model.proofs.Moments.{stays_leaves}
use Rattle.flash_layout.specs.Areas.{cells_in}
use Rattle.flash_layout.specs.Bench.{Settles}
use Rattle.flash_layout.specs.Maps.{FlashMap}
use Rattle.job_file.specs.Stops.{IsWholeOrClosed}
use Rattle.target_core.specs.Units.{Unit as ControlUnit}
use Rattle.target_core.specs.declared.run.RunEnd.{RunEnd}
use Rattle.target_core.specs.declared.run.RunEnd.TheVariants as run_end
use Rattle.target_core.specs.declared.run.SliceEnd.{SliceEnd}
use Rattle.target_core.specs.declared.run.SliceEnd.TheVariants as slice
use Rattle.target_core.specs.World.{World}
use Rattle.target_core.specs.Units.{UnitAgrees, unit_map, state_op}
use Rattle.target_core.specs.Path.{Point, is_device_end}
use Rattle.target_core.specs.Runs.{Piece, IsLeftOn, run_path, RunGives}
use Rattle.target_core.specs.Targets.{SliceFrom}
use Rattle.target_core.specs.Windows.{OnlyIn}
use Rattle.target_core.proofs.RamLemmas.{only_here, only_then}
use Rattle.readback.specs.declared.compare.Difference.{Difference}
use Rattle.algo_calls.specs.declared.call.Call.{Call}
use Rattle.algo_calls.specs.declared.call.CallEnd.{CallEnd}
use Rattle.algo_calls.specs.declared.call.CallEnd.TheVariants as call_end
use Rattle.algo_calls.specs.declared.calls_in.CallsIn.{CallsIn}
use Rattle.algo_calls.specs.Ends.{call_end_of, success_of}
use Rattle.algo_calls.specs.Setups.{Setup}
use Rattle.algo_calls.specs.Frames.{asked, fuel_of, first_point, after_load, path_of}
use Rattle.algo_calls.specs.Calls.{after_reset, ResetGives, CallGives}
use Rattle.algo_calls.specs.Shows.{setup_at, point_at, world_at, Fits, AgreesAt, Slices}
use Rattle.algo_calls.proofs.CallLemmas.{from_run}
use Rattle.algo_calls.proofs.ResetLemmas.{reset_idle}
use Rattle.flash_session.specs.Differs.{DiffersFirst, FindsIn}
use Rattle.flash_session.specs.Moves.{Move, Reset, Load, Make, Stand, stand_at, Failure, run, IsLeftOnWay, calls_in}
use Rattle.flash_session.specs.Plays.{BreaksOff}
use Rattle.flash_session.specs.Regions.{RegionIndex, First}
use Rattle.flash_session.specs.Script.{Broken}
use Rattle.flash_session.proofs.Playing.{left_more}
use Rattle.flash_session.specs.declared.phase.Phase.{Phase}
use Rattle.flash_session.specs.declared.cursor.Cursor.{Cursor}
use Rattle.flash_session.specs.declared.cursor.Cursor.TheVariants as at
use Rattle.flash_session.specs.declared.cursor.Place.{Place}
use Rattle.flash_session.specs.declared.cursor.Place.TheVariants as place
use Rattle.flash_session.specs.declared.cursor.Step.TheVariants as step
use Rattle.flash_session.specs.declared.target_end.TargetEnd.{TargetEnd}
use Rattle.flash_session.specs.declared.target_end.TargetEnd.TheVariants as ended
use Rattle.flash_session.specs.declared.player.Player.{Player}
use Rattle.flash_session.specs.Fit.{legs_of, calls_ahead, turns_in, turns_ahead, togo, IsSoundEnd, IsPlace, Fit}
use Rattle.flash_session.specs.Midway.{Midway}
use Rattle.flash_session.specs.Prepared.{IsPrepared}
use Rattle.flash_session.specs.Rest.{Legs, all_legs, rest_of, unbroken}
use Rattle.flash_session.specs.Stands.{OnWay, none, InCall, HasEnded, EndIs, Stands, StandsOn}
use Rattle.flash_session.specs.Steps.{bytes_at, IsCursor, IsStep}
use Rattle.flash_session.specs.Targets.{setup_on, map_of, setup_now, point_for, legs_for, has_second, size_for}
use Rattle.flash_session.specs.Turned.{TurnsTo}
use Rattle.flash_session.specs.Turns.{SameTarget, GoesOn, Turns, FileTurn, EndFile, IsDone, KeepsFile, judged, made_by, place_fault, target_fault}
use Rattle.flash_session.proofs.CallEnds.{Came, came, call_moments}
use Rattle.bench_model.proofs.CountLemmas.{none_counted, one_counted}
use Rattle.flash_session.proofs.FitLemmas.{unbroken_is, file_kept, stands_same, turn_made}
use Rattle.flash_session.proofs.MachineLemmas.{same_by, same_then, twins_still, size_on, reset_same}
use Rattle.flash_session.proofs.MidwayLemmas.{midway_first, midway_more, moments_more, ends_slice}
use Rattle.flash_session.proofs.StepLemmas.{setup_moved}
use Rattle.flash_session.proofs.TurnLemmas.{way_on, way_begun, way_last, left_at_end, reset_moves, begin_moves, reset_moments, broke_off, ends_reached}
use Rattle.flash_session.proofs.TurnLemmas.{judged_stands, more_alike, all_alike, found_alike, differs_first, read_moments, no_more}

either_end : (b : Bool) (r0 made : ℕ) (call : Call) (nx : Cursor)
    → is_device_fault (place_fault (judged made call nx (cond b call_end.Done (call_end.Refused r0)))) ≡ false
either_end true r0 made call nx = refl
either_end false r0 made call nx = refl

device_judged : (made success : ℕ) (call : Call) (nx : Cursor) (e : RunEnd)
    → is_device_fault (place_fault (judged made call nx (call_end_of success e))) ≡ is_device_end e
device_judged made success call nx (run_end.Returned r0) = either_end (nat_eq r0 success) r0 made call nx
device_judged made success call nx (run_end.NoFuel pc) = refl
device_judged made success call nx (run_end.StrayBreak pc) = refl
device_judged made success call nx (run_end.Faulted kind pc) = refl
device_judged made success call nx run_end.DeviceFault = refl

store_judged : (made : ℕ) (call : Call) (nx : Cursor) (x : CallEnd) → is_store_fault (place_fault (judged made call nx x)) ≡ false
store_judged made call nx call_end.Done = refl
store_judged made call nx (call_end.Refused r0) = refl
store_judged made call nx (call_end.Ended e) = refl
store_judged made call nx call_end.DeviceFault = refl

count_same : (tells : Bool) (old new : CallsIn) (s t : BenchState) → AgreesAt tells old s → map_of new ≡ map_of old → AgreesAt tells new t
    → t.cell_count ≡ s.cell_count
count_same tells old new s t one same two = two.count ∙ ap (λ (m : FlashMap). cells_in m.areas) same ∙ sym one.count

pub agrees_by : (tells : Bool) (old new : CallsIn) (s : BenchState) → new.machine.unit ≡ old.machine.unit → AgreesAt tells old s → AgreesAt tells new s
agrees_by tells old new s same agrees = subst (λ (u : ControlUnit). UnitAgrees tells u s) (sym same) agrees

file_turn : (tells : Bool) (p q new : Place) (s t : BenchState) → p ≡ q → FileTurn tells q new s t → FileTurn tells p new s t
file_turn tells p q new s t same file = subst (λ (x : Place). FileTurn tells x new s t) (sym same) file

not_done : (made : ℕ) (call : Call) (nx : Cursor) (x : CallEnd) → IsDone (judged made call nx x) → ⊥
not_done made call nx call_end.Done is = is
not_done made call nx (call_end.Refused r0) is = is
not_done made call nx (call_end.Ended e) is = is
not_done made call nx call_end.DeviceFault is = is

module _ (tells : Bool) (goal : List ℕ) (old : Player) (arena : List (List ℕ)) (start : BenchState) (fit : Fit tells old arena start) where
  abbrev s : Setup
  s = setup_now old

  abbrev legs : Legs
  legs = legs_for old goal

  abbrev here : Point
  here = point_for old arena start.cells

  stood : (p : Place) → old.place ≡ p → (a : Stand) (way : List Move) → StandsOn a way goal old arena start
      → Stands legs goal s a way p old.made here old.calls.machine.return_at start
  stood p is a way stands = subst (λ (x : Place). Stands legs goal s a way x old.made here old.calls.machine.return_at start) is stands

  calls_before : (p : Place) → old.place ≡ p → calls_ahead (legs_of old) old.place ≡ calls_ahead (legs_of old) p
  calls_before p is = ap (calls_ahead (legs_of old)) is

  turns_before : (p : Place) → old.place ≡ p → togo old ≡ turns_ahead (legs_of old) (size_for old) p
  turns_before p is = ap (turns_ahead (legs_of old) (size_for old)) is

  -- only the calls that moved last changed
  kept : (new : Player) → setup_at new.calls ≡ setup_at old.calls → map_of new.calls ≡ map_of old.calls → new.moved ≡ old.moved → new.other ≡ old.other
      → new.work ≡ old.work → new.window ≡ old.window → SameTarget old new
  kept new setup map moved other work window = same_by old new setup map moved other work window

  -- ---- a phase begins

  module _ (c : Cursor) (is : old.place ≡ place.At c) (r : RegionIndex) (p : Phase) (next : IsStep old c (step.Begin r p)) (mid : CallsIn)
      (arena1 : List (List ℕ)) (turned : Player) (arena2 : List (List ℕ)) (fin : CallsIn) (arena3 : List (List ℕ)) (end : BenchState)
      (reset_setup : setup_at mid ≡ setup_at old.calls) (reset_map : map_of mid ≡ map_of old.calls) (reset_only : OnlyIn old.window arena arena1)
      (settles : Settles tells start end) (counted : end.device_faults ≡ start.device_faults) (now : AgreesAt tells mid end)
      (gives : IsTrue tells → ResetGives s here.world start.operation (world_at mid arena1 old.window end.cells))
      (turns : TurnsTo r (record old { calls = mid }) arena1 turned arena2)
      (load_same : fin ≡ turned.calls) (load_only : OnlyIn turned.window arena2 arena3) (load_fits : Fits fin arena3 turned.window)
      (leaves : (cells : List ℕ) → world_at fin arena3 turned.window cells ≡ after_load (setup_at turned.calls)
      (world_at turned.calls arena2 turned.window cells)) where
    abbrev g1 : Player
    g1 = record old { calls = mid }

    abbrev begun : Player
    begun = record turned { calls = fin; place = place.At (at.Init r p) }

    window_is : turned.window ≡ old.window
    window_is = ap (λ (g : Player). g.window) turns.rest

    made_is : turned.made ≡ old.made
    made_is = ap (λ (g : Player). g.made) turns.rest

    reset_same_target : SameTarget old g1
    reset_same_target = kept g1 reset_setup reset_map refl refl refl refl

    loaded_same : SameTarget turned begun
    loaded_same = same_by turned begun (ap (λ (k : CallsIn). setup_at k) load_same) (ap (λ (k : CallsIn). map_of k) load_same) refl refl refl refl

    begun_same : SameTarget old begun
    begun_same = same_then old turned begun (same_then old g1 turned reset_same_target turns.same) loaded_same

    abbrev next_setup : Setup
    next_setup = setup_on old r

    ram_is : next_setup.ram_size ≡ s.ram_size
    ram_is = size_on old fit.scripted.twins r

    -- the machine that moves next has the world that the reset left on the one that moved last
    turned_gives : IsTrue tells → ResetGives next_setup here.world start.operation (world_at turned.calls arena2 old.window end.cells)
    turned_gives told =
        let reset = gives told in
        record {
          torn = reset.torn;
          leaves = turns.stands here.world start.operation reset.torn end.cells
              (reset.leaves ∙ ap (λ (y : Setup). after_reset y here.world start.operation reset.torn) (sym reset_setup))
              ∙ ap (λ (y : Setup). after_reset y here.world start.operation reset.torn) reset_setup
              ∙ sym (reset_same next_setup s here.world start.operation reset.torn ram_is);
        }

    moved_setup : setup_at turned.calls ≡ next_setup
    moved_setup = sym (setup_moved turned r turns.moved) ∙ turns.same.setups r ∙ reset_same_target.setups r

    loaded_as : world_at fin arena3 old.window end.cells ≡ after_load next_setup (world_at turned.calls arena2 old.window end.cells)
    loaded_as =
        ap (λ (w : ℕ). world_at fin arena3 w end.cells) (sym window_is) ∙ leaves end.cells
        ∙ ap (λ (w : ℕ). after_load (setup_at turned.calls) (world_at turned.calls arena2 w end.cells)) window_is
        ∙ ap (λ (y : Setup). after_load y (world_at turned.calls arena2 old.window end.cells)) moved_setup

    begun_told : IsTrue tells → (a : Stand) (way : List Move) → StandsOn a way goal old arena start → GoesOn a way goal begun arena3 start end
    begun_told told a way stands =
        let on = stood (place.At c) is a way stands in
        let reset = turned_gives told in
        let way' : List Move = way ++ (Reset next_setup reset.torn ∷ Load next_setup ∷ []) in
        let ran : run a way' ≡ Ok (stand_at old.made (world_at fin arena3 old.window end.cells)) =
        begin_moves next_setup a way old.made here.world on.1 start end refl (fit.agrees.operation told) (world_at turned.calls arena2 old.window end.cells)
        (world_at fin arena3 old.window end.cells) reset loaded_as in
        record {
          more = Reset next_setup reset.torn ∷ Load next_setup ∷ [];
          stands = stands_same old begun a way' goal arena3 end begun_same (
            way_begun legs next_setup way c r p reset.torn on.0 (next.0 goal),
            subst (λ (w : ℕ). run a way' ≡ Ok (stand_at turned.made (world_at fin arena3 w end.cells))) (sym window_is)
                (subst (λ (n : ℕ). run a way' ≡ Ok (stand_at n (world_at fin arena3 old.window end.cells))) (sym made_is) ran),
          );
          moments = reset_moments next_setup a way old.made here.world on.1 start end refl (fit.agrees.operation told)
              (Reset next_setup reset.torn ∷ Load next_setup ∷ []) (settles.moments told);
        }

    begun_map : map_of fin ≡ map_of old.calls
    begun_map = ap (λ (k : CallsIn). map_of k) load_same ∙ turns.map ∙ reset_map

    begun_agrees : AgreesAt tells fin end
    begun_agrees = agrees_by tells turned.calls fin end (ap (λ (k : CallsIn). k.machine.unit) load_same) (record {
      count = now.count ∙ ap (λ (m : FlashMap). cells_in m.areas) (sym turns.map);
      operation = λ told.
          now.operation told
          ∙ ap (λ (w : World). state_op w.state) (gives told).leaves ∙ reset_idle s here.world start.operation (gives told).torn
          ∙ sym (ap (λ (w : World). state_op w.state) (turned_gives told).leaves ∙ reset_idle next_setup here.world start.operation (turned_gives told).torn);
    })

    rest_is : rest_of (legs_of old) c unbroken ≡ Reset next_setup [] ∷ Load next_setup ∷ rest_of (legs_of old) (at.Init r p) unbroken
    rest_is = ap (rest_of (legs_of old) c) (sym (unbroken_is r p)) ∙ next.0 [] unbroken []

    pub begin_turn : Turns tells goal old arena start begun arena3 end
    begin_turn = turn_made tells goal old begun arena arena3 start end fit begun_same (ap (λ (g : Player). length g.page.items) turns.rest)
        (twins_still turned begun loaded_same refl refl turns.twins) begun_map
        (only_then arena arena2 arena3 old.window (only_then arena arena1 arena2 old.window reset_only turns.only)
        (subst (λ (w : ℕ). OnlyIn w arena2 arena3) window_is load_only))
        load_fits begun_agrees (turns.moved, next.1)
        (omega (arith, made_is, fit.room, calls_before (place.At c) is, ap calls_in rest_is))
        (omega (arith, turns_before (place.At c) is, ap turns_in rest_is))
        settles.count (file_turn tells old.place (place.At c) (place.At (at.Init r p)) start end is
        (record { read = file_kept tells start end settles.file; other = λ z. z }))
        (none_counted start.device_faults end.device_faults counted) (none_counted start.store_faults end.store_faults settles.file.faults) begun_told

  -- ---- a reset that a device fault broke off

  module _ (c : Cursor) (is : old.place ≡ place.At c) (mid : CallsIn) (arena1 : List (List ℕ)) (end : BenchState) (same : (mid ≡ old.calls) × (arena1 ≡ arena))
      (only : OnlyIn old.window arena arena1) (fits : Fits mid arena1 old.window) (settles : Settles tells start end)
      (later : start.device_faults ≤ end.device_faults) (rose : Rose start.device_faults end.device_faults)
      (stays : IsTrue tells → StaysOpen start end) where
    abbrev broken : Player
    broken = record old { calls = mid; place = place.Ended ended.DeviceFault }

    broken_same : SameTarget old broken
    broken_same = kept broken (ap (λ (k : CallsIn). setup_at k) same.0) (ap (λ (k : CallsIn). map_of k) same.0) refl refl refl refl

    pub reset_broken : Turns tells goal old arena start broken arena1 end
    reset_broken = turn_made tells goal old broken arena arena1 start end fit broken_same refl (twins_still old broken broken_same refl refl fit.scripted.twins)
        (ap (λ (k : CallsIn). map_of k) same.0) only fits
        (agrees_by tells old.calls mid end (ap (λ (k : CallsIn). k.machine.unit) same.0)
        (record { count = settles.count ∙ fit.agrees.count; operation = λ told. (stays told).operation ∙ fit.agrees.operation told })) tt
        (omega (arith, fit.room))
        (omega (arith, turns_before (place.At c) is))
        settles.count (file_turn tells old.place (place.At c) (place.Ended ended.DeviceFault) start end is
        (record { read = file_kept tells start end settles.file; other = λ z. z }))
        (one_counted start.device_faults end.device_faults later rose) (none_counted start.store_faults end.store_faults settles.file.faults)
        (λ told a way stands. let on = stood (place.At c) is a way stands in
        no_more a way goal broken arena1 start end
        (stands_same old broken a way goal arena1 end broken_same
        (broke_off legs goal a way (rest_of legs c) on.0 ended.DeviceFault old.made here.world end on.1 (stays told).cells
        ((stays told).operation ∙ fit.agrees.operation told) (λ moves off. off)))
        (subst (λ (m : List Move). Leaves (cells_half start) (cells_half end) (IsLeftOnWay a m)) (append-nil way)
        (reset_moments s a way old.made here.world on.1 start end refl (fit.agrees.operation told) [] (settles.moments told))))

  -- ---- the last reset

  module _ (c : Cursor) (is : old.place ≡ place.At c) (next : IsStep old c step.Last) (fin : CallsIn) (arena1 : List (List ℕ)) (end : BenchState)
      (reset_setup : setup_at fin ≡ setup_at old.calls) (reset_map : map_of fin ≡ map_of old.calls) (reset_only : OnlyIn old.window arena arena1)
      (fits : Fits fin arena1 old.window)
      (settles : Settles tells start end) (counted : end.device_faults ≡ start.device_faults) (now : AgreesAt tells fin end)
      (gives : IsTrue tells → ResetGives s here.world start.operation (world_at fin arena1 old.window end.cells)) where
    abbrev last : Player
    last = record old { calls = fin; place = place.Comparing 0 }

    last_is : SameTarget old last
    last_is = kept last reset_setup reset_map refl refl refl refl

    abbrev first_setup : Setup
    first_setup = setup_on old First

    -- the last reset is that of the first region's machine
    first_gives : IsTrue tells → ResetGives first_setup here.world start.operation (world_at fin arena1 old.window end.cells)
    first_gives told = let reset = gives told in record {
      torn = reset.torn;
      leaves = reset.leaves ∙ sym (reset_same first_setup s here.world start.operation reset.torn (size_on old fit.scripted.twins First));
    }

    last_told : IsTrue tells → (a : Stand) (way : List Move) → StandsOn a way goal old arena start → GoesOn a way goal last arena1 start end
    last_told told a way stands =
        let on = stood (place.At c) is a way stands in
        let reset = first_gives told in
        record {
          more = Reset first_setup reset.torn ∷ [];
          stands = stands_same old last a (way ++ (Reset first_setup reset.torn ∷ [])) goal arena1 end last_is (
            way_last legs first_setup way c reset.torn on.0 (next goal),
            reset_moves first_setup a way old.made here.world on.1 start end refl (fit.agrees.operation told) (world_at fin arena1 old.window end.cells) reset,
            refl,
          );
          moments = reset_moments first_setup a way old.made here.world on.1 start end refl (fit.agrees.operation told) (Reset first_setup reset.torn ∷ [])
              (settles.moments told);
        }

    rest_last : rest_of (legs_of old) c unbroken ≡ Reset first_setup [] ∷ []
    rest_last = next [] unbroken []

    pub last_turn : Turns tells goal old arena start last arena1 end
    last_turn = turn_made tells goal old last arena arena1 start end fit last_is refl (twins_still old last last_is refl refl fit.scripted.twins)
        reset_map reset_only fits now (
          fit.some,
          (λ told. now.operation told ∙ ap (λ (w : World). state_op w.state) (gives told).leaves
              ∙ reset_idle s here.world start.operation (gives told).torn),
        )
        (omega (arith, fit.room))
        (omega (arith, turns_before (place.At c) is, ap turns_in rest_last))
        settles.count (file_turn tells old.place (place.At c) (place.Comparing 0) start end is
        (record { read = file_kept tells start end settles.file; other = λ z. z }))
        (none_counted start.device_faults end.device_faults counted) (none_counted start.store_faults end.store_faults settles.file.faults) last_told

  -- ---- a call is prepared

  module _ (c : Cursor) (is : old.place ≡ place.At c) (call : Call) (from len : ℕ) (nx : Cursor) (next : IsStep old c (step.Call call from len nx))
      (end : BenchState) (reads : OnlyReads tells start end)
      (law : IsTrue tells → (y : List ℕ) → left (cells_half start) y ↔ SameOutside start.operation start.cells y) where
    read : FileIsRead tells start end
    read = record { file = reads.file; moments = reads.moments }

    -- the cells' half of the bench stayed
    quiet : IsTrue tells → (a : Stand) (way more : List Move) → run a way ≡ Ok (stand_at old.made here.world)
        → Leaves (cells_half start) (cells_half end) (IsLeftOnWay a (way ++ more))
    quiet told a way more ran =
        stays_leaves (IsLeftOnWay a (way ++ more)) (λ y at. left_more a way more y
        (left_at_end a way old.made here.world start y ran refl (fit.agrees.operation told) ((law told y).0 at))) reads.cells.half

    unmoved : AgreesAt tells old.calls end
    unmoved = record { count = reads.cells.count ∙ fit.agrees.count; operation = λ told. reads.cells.operation ∙ fit.agrees.operation told }

    module _ (ready : Player) (arena1 : List (List ℕ)) (left_over : ℕ)
        (prepared : IsPrepared tells old.calls arena old.window goal call from len left_over ready.calls arena1)
        (page : length ready.page.items ≡ length old.page.items)
        (ready_is : ready ≡ record old { calls = ready.calls; page = ready.page; place = place.In call len left_over nx })
        (counted : end.store_faults ≡ start.store_faults) where
      ready_moved_is : ready.moved ≡ old.moved
      ready_moved_is = ap (λ (g : Player). g.moved) ready_is

      ready_other_is : ready.other ≡ old.other
      ready_other_is = ap (λ (g : Player). g.other) ready_is

      ready_window_is : ready.window ≡ old.window
      ready_window_is = ap (λ (g : Player). g.window) ready_is

      ready_made_is : ready.made ≡ old.made
      ready_made_is = ap (λ (g : Player). g.made) ready_is

      ready_place_is : ready.place ≡ place.In call len left_over nx
      ready_place_is = ap (λ (g : Player). g.place) ready_is

      ready_same : SameTarget old ready
      ready_same = kept ready prepared.setup (ap (λ (u : ControlUnit). unit_map u) prepared.unit) ready_moved_is ready_other_is
          (ap (λ (g : Player). g.work) ready_is) ready_window_is

      ready_told : IsTrue tells → (a : Stand) (way : List Move) → StandsOn a way goal old arena start → GoesOn a way goal ready arena1 start end
      ready_told told a way stands =
          let on = stood (place.At c) is a way stands in
          let bytes = prepared.bytes in
          let more : List Move = Make s call bytes ∷ [] in
          let rest = λ (b : Broken). next.0 goal b ∙ ap (λ (l : List ℕ). Make s call l ∷ rest_of legs nx b) (sym (prepared.are told)) in
          let there : Point = point_for ready arena1 end.cells in
          let first : Point = first_point s here.world (asked call bytes) in
          let stands' :
          Stands legs goal (setup_now ready) a (way ++ more) (place.In call len left_over nx) ready.made there ready.calls.machine.return_at end = (
            way_on legs way (rest_of legs c) (rest_of legs nx) (Make s call bytes) on.0 rest,
            subst (λ (y : Setup). InCall y a (way ++ more) call len left_over ready.made there ready.calls.machine.return_at) (sym prepared.setup) (record {
              done = way;
              bytes = bytes;
              before = here.world;
              is = refl;
              long = prepared.long;
              ran = on.1 ∙ ap (λ (n : ℕ). ok_at n) (sym ready_made_is);
              back = prepared.return_at;
              midway = subst (λ (n : ℕ). Midway s.layout.return_at (fuel_of s call) first n there) (sym prepared.fuel)
                  (midway_first s.layout.return_at (fuel_of s call) first there
                  (ap (λ (w : ℕ). point_at ready.calls arena1 w end.cells) ready_window_is ∙ prepared.first end.cells
                  ∙ ap (λ (l : List ℕ). first_point s (world_at old.calls arena old.window l) (asked call bytes)) reads.cells.cells));
            }),
          ) in
          record {
            more = more;
            stands = stands_same old ready a (way ++ more) goal arena1 end ready_same
                (subst (λ (p : Place). Stands legs goal (setup_now ready) a (way ++ more) p ready.made there ready.calls.machine.return_at end)
                (sym ready_place_is) stands');
            moments = quiet told a way more on.1;
          }
        where
          ok_at : ℕ → Result Stand Failure
          ok_at n = Ok (stand_at n here.world)

      ready_rest : rest_of (legs_of old) c unbroken ≡ Make s call (bytes_at [] from len) ∷ rest_of (legs_of old) nx unbroken
      ready_rest = next.0 [] unbroken

      pub ready_turn : Turns tells goal old arena start ready arena1 end
      ready_turn = turn_made tells goal old ready arena arena1 start end fit ready_same page
          (twins_still old ready ready_same ready_moved_is ready_other_is fit.scripted.twins) (ap (λ (u : ControlUnit). unit_map u) prepared.unit)
          prepared.only
          (subst (λ (w : ℕ). Fits ready.calls arena1 w) (sym ready_window_is) prepared.fits)
          (agrees_by tells old.calls ready.calls end prepared.unit unmoved)
          (subst (λ (p : Place). IsPlace tells (has_second old) ready.moved p (size_for old) end) (sym ready_place_is)
          (subst (λ (m : RegionIndex). IsCursor (has_second old) m nx) (sym ready_moved_is) next.2))
          (omega (
            arith,
            fit.room,
            calls_before (place.At c) is,
            ap calls_in ready_rest,
            ready_made_is,
            ap (λ (p : Place). calls_ahead (legs_of old) p) ready_place_is,
          ))
          (omega (
            arith,
            turns_before (place.At c) is,
            ap turns_in ready_rest,
            prepared.fuel,
            ap (λ (p : Place). turns_ahead (legs_of old) (size_for old) p) ready_place_is,
          ))
          reads.cells.count
          (file_turn tells old.place (place.At c) ready.place start end is
          (subst (λ (p : Place). KeepsFile tells p start end) (sym ready_place_is) (record { read = read; other = λ z. z })))
          (subst (λ (p : Place). IsCounted start.device_faults end.device_faults (is_device_fault (place_fault p))) (sym ready_place_is)
          (none_counted start.device_faults end.device_faults reads.cells.faults))
          (subst (λ (p : Place). IsCounted start.store_faults end.store_faults (is_store_fault (place_fault p))) (sym ready_place_is)
          (none_counted start.store_faults end.store_faults counted)) ready_told

    -- the bytes of the call could not be read
    module _ (unread : Player) (arena1 : List (List ℕ)) (same : (unread.calls ≡ old.calls) × (arena1 ≡ arena))
        (page : length unread.page.items ≡ length old.page.items)
        (unread_is : unread ≡ record old { calls = unread.calls; page = unread.page; place = place.Ended ended.StoreFault })
        (later : start.store_faults ≤ end.store_faults) (rose : Rose start.store_faults end.store_faults) where
      unread_place : unread.place ≡ place.Ended ended.StoreFault
      unread_place = ap (λ (g : Player). g.place) unread_is

      unread_window : unread.window ≡ old.window
      unread_window = ap (λ (g : Player). g.window) unread_is

      unread_same : SameTarget old unread
      unread_same = kept unread (ap (λ (k : CallsIn). setup_at k) same.0) (ap (λ (k : CallsIn). map_of k) same.0) (ap (λ (g : Player). g.moved) unread_is)
          (ap (λ (g : Player). g.other) unread_is) (ap (λ (g : Player). g.work) unread_is) unread_window

      unread_told : IsTrue tells → (a : Stand) (way : List Move) → StandsOn a way goal old arena start → GoesOn a way goal unread arena1 start end
      unread_told told a way stands =
          let on = stood (place.At c) is a way stands in
          no_more a way goal unread arena1 start end
          (stands_same old unread a way goal arena1 end unread_same
          (subst (λ (p : Place). Stands legs goal (setup_now unread) a way p unread.made (point_for unread arena1 end.cells) unread.calls.machine.return_at end)
          (sym unread_place)
          (broke_off legs goal a way (rest_of legs c) on.0 ended.StoreFault old.made here.world end on.1 reads.cells.cells
          (reads.cells.operation ∙ fit.agrees.operation told) (λ moves off. off))))
          (subst (λ (m : List Move). Leaves (cells_half start) (cells_half end) (IsLeftOnWay a m)) (append-nil way) (quiet told a way [] on.1))

      pub prepare_unread : Turns tells goal old arena start unread arena1 end
      prepare_unread = turn_made tells goal old unread arena arena1 start end fit unread_same page
          (twins_still old unread unread_same (ap (λ (g : Player). g.moved) unread_is) (ap (λ (g : Player). g.other) unread_is) fit.scripted.twins)
          (ap (λ (k : CallsIn). map_of k) same.0)
          (subst (λ (l : List (List ℕ)). OnlyIn old.window arena l) (sym same.1) (only_here arena old.window))
          (subst (λ (w : ℕ). Fits unread.calls arena1 w) (sym unread_window)
          (subst (λ (l : List (List ℕ)). Fits unread.calls l old.window) (sym same.1)
          (subst (λ (k : CallsIn). Fits k arena old.window) (sym same.0) fit.fits)))
          (agrees_by tells old.calls unread.calls end (ap (λ (k : CallsIn). k.machine.unit) same.0) unmoved)
          (subst (λ (p : Place). IsPlace tells (has_second old) unread.moved p (size_for old) end) (sym unread_place) tt)
          (omega (arith, fit.room, ap (λ (g : Player). g.made) unread_is, ap (λ (p : Place). calls_ahead (legs_of old) p) unread_place))
          (omega (arith, turns_before (place.At c) is, ap (λ (p : Place). turns_ahead (legs_of old) (size_for old) p) unread_place))
          reads.cells.count
          (file_turn tells old.place (place.At c) unread.place start end is
          (subst (λ (p : Place). KeepsFile tells p start end) (sym unread_place) (record { read = read; other = λ z. z })))
          (subst (λ (p : Place). IsCounted start.device_faults end.device_faults (is_device_fault (place_fault p))) (sym unread_place)
          (none_counted start.device_faults end.device_faults reads.cells.faults))
          (subst (λ (p : Place). IsCounted start.store_faults end.store_faults (is_store_fault (place_fault p))) (sym unread_place)
          (one_counted start.store_faults end.store_faults later rose)) unread_told

  -- ---- a call goes on

  module _ (call : Call) (len rest : ℕ) (nx : Cursor) (is : old.place ≡ place.In call len rest nx) (fin : CallsIn) (arena1 : List (List ℕ)) (less steps : ℕ)
      (end : BenchState) where
    path_is : (before : World) (bytes : List ℕ) → path_of s before (asked call bytes) ≡ run_path s.layout.return_at (fuel_of s call)
        (first_point s before (asked call bytes))
    unfolding path_of
    path_is before bytes = refl

    abbrev there : Point
    there = point_at fin arena1 old.window end.cells

    sliced : (e : SliceEnd) (return_at : ℕ) → old.calls.machine.return_at ≡ return_at → SliceFrom old.calls.machine.return_at here start rest less steps e there
        end → SliceFrom return_at here start rest less steps e there end
    sliced e return_at back one = subst (λ (n : ℕ). SliceFrom n here start rest less steps e there end) back one

    cursor_in : IsCursor (has_second old) old.moved nx
    cursor_in = subst (λ (p : Place). IsPlace tells (has_second old) old.moved p (size_for old) start) is fit.place

    module _ (one : Slices tells old.calls arena old.window start rest less steps slice.More fin arena1 end) (some : 1 ≤ steps) where
      abbrev further : Player
      further = record old { calls = fin; place = place.In call len less nx }

      further_same : SameTarget old further
      further_same = kept further one.setup one.map refl refl refl refl

      further_told : IsTrue tells → (a : Stand) (way : List Move) → StandsOn a way goal old arena start → GoesOn a way goal further arena1 start end
      further_told told a way stands =
          let on = stood (place.In call len rest nx) is a way stands in
          let x = on.1 in
          let first : Point = first_point s x.before (asked call x.bytes) in
          let part = sliced slice.More s.layout.return_at x.back (one.run told) in
          let moments : Leaves (cells_half start) (cells_half end) (IsLeftOnWay a (x.done ++ (Make s call x.bytes ∷ []))) =
          call_moments s a x.done call x.bytes old.made x.before x.ran start end
          (subst (λ (q : Piece). Leaves (cells_half start) (cells_half end) (IsLeftOn q)) (sym (path_is x.before x.bytes))
          (moments_more s.layout.return_at (fuel_of s call) first rest here x.midway steps less there start end part one.falls)) in
          no_more a way goal further arena1 start end
          (stands_same old further a way goal arena1 end further_same (
            on.0,
            subst (λ (y : Setup). InCall y a way call len less old.made there fin.machine.return_at) (sym one.setup) (record {
              done = x.done;
              bytes = x.bytes;
              before = x.before;
              is = x.is;
              long = x.long;
              ran = x.ran;
              back = one.return_at ∙ x.back;
              midway = midway_more s.layout.return_at (fuel_of s call) first rest here x.midway steps less there start end part one.falls;
            }),
          ))
          (subst (λ (l : List Move). Leaves (cells_half start) (cells_half end) (IsLeftOnWay a l)) (sym x.is) moments)

      pub further_turn : Turns tells goal old arena start further arena1 end
      further_turn = turn_made tells goal old further arena arena1 start end fit further_same refl
          (twins_still old further further_same refl refl fit.scripted.twins) one.map one.others one.ram one.agrees cursor_in
          (omega (arith, fit.room, calls_before (place.In call len rest nx) is))
          (omega (arith, turns_before (place.In call len rest nx) is, (one.more refl).1, some))
          (count_same tells old.calls fin start end fit.agrees one.map one.agrees)
          (file_turn tells old.place (place.In call len rest nx) (place.In call len less nx) start end is
          (record { read = file_kept tells start end one.file; other = λ z. z })) one.cause
          (none_counted start.store_faults end.store_faults one.file.faults) further_told

    judged_place : (x : CallEnd) (size : ℕ) → IsPlace tells (has_second old) old.moved (judged old.made call nx x) size end
    judged_place call_end.Done size = cursor_in
    judged_place (call_end.Refused r0) size = record { numbered = omega arith; failed = refl; other = refl }
    judged_place (call_end.Ended e) size = record { numbered = omega arith; failed = refl; other = refl }
    judged_place call_end.DeviceFault size = tt

    judged_room : (x : CallEnd) → old.made + calls_ahead (legs_of old) (place.In call len rest nx) < 2 ^ 32
        → made_by old.made x + calls_ahead (legs_of old) (judged old.made call nx x) < 2 ^ 32
    judged_room call_end.Done room = omega (arith, room)
    judged_room (call_end.Refused r0) room = omega (arith, room)
    judged_room (call_end.Ended e) room = omega (arith, room)
    judged_room call_end.DeviceFault room = omega (arith, room)

    judged_near : (x : CallEnd) → turns_ahead (legs_of old) (size_for old) (judged old.made call nx x) < turns_ahead (legs_of old) (size_for old)
        (place.In call len rest nx)
    judged_near call_end.Done = omega arith
    judged_near (call_end.Refused r0) = omega arith
    judged_near (call_end.Ended e) = omega arith
    judged_near call_end.DeviceFault = omega arith

    module _ (e : RunEnd) (one : Slices tells old.calls arena old.window start rest less steps (slice.Ended e) fin arena1 end)
        (law : IsTrue tells → (y : List ℕ) → left (cells_half start) y ↔ SameOutside start.operation start.cells y) where
      abbrev ending : CallEnd
      ending = call_end_of (success_of call len) e

      abbrev came_to : Player
      came_to = record old { calls = fin; made = made_by old.made ending; place = judged old.made call nx ending }

      came_same : SameTarget old came_to
      came_same = kept came_to one.setup one.map refl refl refl refl

      came_told : IsTrue tells → (a : Stand) (way : List Move) → StandsOn a way goal old arena start → GoesOn a way goal came_to arena1 start end
      came_told told a way stands =
          let on = stood (place.In call len rest nx) is a way stands in
          let x = on.1 in
          let r = asked call x.bytes in
          let first : Point = first_point s x.before r in
          let part = sliced (slice.Ended e) s.layout.return_at x.back (one.run told) in
          let ran : RunGives s.layout.return_at (fuel_of s call) first start e there end =
          ends_slice s.layout.return_at (fuel_of s call) first rest here x.midway steps less e there start end part
          (λ y at. subst (λ (o : Option (ℕ × ℕ)). SameOutside o start.cells y) (fit.agrees.operation told) ((law told y).0 at)) in
          let gives : CallGives s x.before r start ending there.world end =
          subst (λ (n : ℕ). CallGives s x.before r start (call_end_of (success_of call n) e) there.world end) x.long
          (from_run s x.before r start e there end ran) in
          let moved : Came a way old.made call ending there.world end =
          subst (λ (l : List Move). Came a l old.made call ending there.world end) (sym x.is)
          (came s a x.done call x.bytes old.made x.before x.ran ending there.world start end gives) in
          no_more a way goal came_to arena1 start end
          (stands_same old came_to a way goal arena1 end came_same
          (judged_stands legs goal (setup_now came_to) a way call old.made nx ending there fin.machine.return_at end on.0 moved refl))
          (subst (λ (l : List Move). Leaves (cells_half start) (cells_half end) (IsLeftOnWay a l)) (sym x.is)
          (call_moments s a x.done call x.bytes old.made x.before x.ran start end gives.moments))

      pub came_turn : (new : Player) → new ≡ came_to → Turns tells goal old arena start new arena1 end
      came_turn new same = subst (λ (x : Player). Turns tells goal old arena start x arena1 end) (sym same)
          (turn_made tells goal old came_to arena arena1 start end fit came_same refl (twins_still old came_to came_same refl refl fit.scripted.twins)
          one.map one.others one.ram one.agrees (judged_place ending (size_for old))
          (judged_room ending (omega (arith, fit.room, calls_before (place.In call len rest nx) is)))
          (omega (arith, turns_before (place.In call len rest nx) is, judged_near ending))
          (count_same tells old.calls fin start end fit.agrees one.map one.agrees)
          (file_turn tells old.place (place.In call len rest nx) (judged old.made call nx ending) start end is
          (record { read = file_kept tells start end one.file; other = not_done old.made call nx ending }))
          (subst (λ (b : Bool). IsCounted start.device_faults end.device_faults b) (sym (device_judged old.made (success_of call len) call nx e)) one.cause)
          (subst (λ (b : Bool). IsCounted start.store_faults end.store_faults b) (sym (store_judged old.made call nx ending))
          (none_counted start.store_faults end.store_faults one.file.faults)) came_told)

  -- ---- the place of a comparison

  compare_place : (at : ℕ) → old.place ≡ place.Comparing at → IsPlace tells (has_second old) old.moved (place.Comparing at) (size_for old) start
  compare_place at is = subst (λ (p : Place). IsPlace tells (has_second old) old.moved p (size_for old) start) is fit.place

  pub compare_at : (at : ℕ) → old.place ≡ place.Comparing at → at < start.cell_count
  compare_at at is = omega (arith, (compare_place at is).0, fit.agrees.count, fit.wanted)

  pub compare_count : start.cell_count ≡ size_for old
  compare_count = fit.agrees.count ∙ fit.wanted

  pub compare_idle : (at : ℕ) → old.place ≡ place.Comparing at → IsTrue tells → start.operation ≡ None
  compare_idle at is told = (compare_place at is).1 told

  module _ (at : ℕ) (is : old.place ≡ place.Comparing at) (end : BenchState) (reads : IsRead tells start end)
      (law : IsTrue tells → (y : List ℕ) → left (cells_half start) y ↔ SameOutside start.operation start.cells y) where
    still : AgreesAt tells old.calls end
    still = record { count = reads.cells.count ∙ fit.agrees.count; operation = λ told. reads.cells.operation told ∙ fit.agrees.operation told }

    abbrev at_end : List ℕ → Point
    at_end cells = point_for old arena cells

    stays_idle : IsTrue tells → end.operation ≡ None
    stays_idle told = reads.cells.operation told ∙ compare_idle at is told

    -- the comparison goes to a place that is right for the cells as they are
    compare_turn : (p : Place) → IsPlace tells (has_second old) old.moved p (size_for old) end → calls_ahead (legs_of old) p ≡ 0
        → turns_ahead (legs_of old) (size_for old) p < (size_for old - at) + 2
        → IsCounted start.device_faults end.device_faults (is_device_fault (place_fault p))
        → IsCounted start.store_faults end.store_faults (is_store_fault (place_fault p)) → (IsDone p → ⊥)
        → (IsTrue tells → (a : Stand) (way : List Move) → OnWay legs way none → run a way ≡ Ok (stand_at old.made here.world)
        → take at start.cells ≡ take at goal
        → Stands legs goal s a way p old.made (at_end end.cells) old.calls.machine.return_at end)
        → Turns tells goal old arena start (record old { place = p }) arena end
    compare_turn p lawful ahead near device store other to =
        let new : Player = record old { place = p } in
        let same : SameTarget old new = kept new refl refl refl refl refl refl in
        turn_made tells goal old new arena arena start end fit same refl (twins_still old new same refl refl fit.scripted.twins) refl
        (only_here arena old.window) fit.fits still lawful
        (omega (arith, fit.room, ahead))
        (omega (arith, turns_before (place.Comparing at) is, near))
        reads.cells.count (file_turn tells old.place (place.Comparing at) p start end is (record { read = reads.file; other = other })) device store
        (λ told a way stands. let on = stood (place.Comparing at) is a way stands in
        no_more a way goal new arena start end
        (to told a way on.0 on.1 on.2)
        (read_moments a way old.made here.world start end on.1 refl (fit.agrees.operation told) (law told) reads.cells.moments))

    same_world : IsTrue tells → (a : Stand) (way : List Move) → run a way ≡ Ok (stand_at old.made here.world)
        → run a way ≡ Ok (stand_at old.made (at_end end.cells).world)
    same_world told a way ran = subst (λ (l : List ℕ). run a way ≡ Ok (stand_at old.made (at_end l).world)) (sym (reads.cells.cells told)) ran

    module _ (size : ℕ) (le : at + size ≤ size_for old) (some : 1 ≤ size) (finds : FindsIn tells start.cells goal at size None)
        (counted : end.device_faults ≡ start.device_faults) (stored : end.store_faults ≡ start.store_faults) where
      -- all cells of the window match, and more cells follow
      pub alike_turn : at + size ≢ size_for old → Turns tells goal old arena start (record old { place = place.Comparing (at + size) }) arena end
      alike_turn more = compare_turn (place.Comparing (at + size)) (omega (arith, le, more), stays_idle) refl (omega (arith, some, le))
          (none_counted start.device_faults end.device_faults counted) (none_counted start.store_faults end.store_faults stored) (λ z. z)
          (λ told a way on ran alike. (
            on,
            same_world told a way ran,
            subst (λ (l : List ℕ). take (at + size) l ≡ take (at + size) goal) (sym (reads.cells.cells told))
                (more_alike start.cells goal at size alike (found_alike tells start.cells goal at size told finds)),
          ))

      -- all cells of the window match, and they were the last
      pub closing_turn : at + size ≡ size_for old → (IsTrue tells → length start.cells ≡ size_for old) → (IsTrue tells → length goal ≡ size_for old)
          → Turns tells goal old arena start (record old { place = place.Closing }) arena end
      closing_turn all cells_long goal_long = compare_turn place.Closing stays_idle refl (omega arith)
          (none_counted start.device_faults end.device_faults counted) (none_counted start.store_faults end.store_faults stored) (λ z. z)
          (λ told a way on ran alike. (
            on,
            same_world told a way ran,
            reads.cells.cells told
                ∙ all_alike start.cells goal (at + size) (cells_long told ∙ sym all) (goal_long told ∙ sym all)
                (more_alike start.cells goal at size alike (found_alike tells start.cells goal at size told finds)),
          ))

    -- a cell of the window differs
    pub differs_turn : (size : ℕ) (d : Difference) → at + size ≤ size_for old → (IsTrue tells → length goal ≡ size_for old)
        → FindsIn tells start.cells goal at size (Some d) → end.device_faults ≡ start.device_faults → end.store_faults ≡ start.store_faults
        → Turns tells goal old arena start (record old { place = place.Ended (ended.Mismatch d) }) arena end
    differs_turn size d le goal_long finds counted stored =
        compare_turn (place.Ended (ended.Mismatch d)) (
          omega (arith, finds.finds.place, finds.finds.first.within, finds.long, le),
          finds.finds.first.unequal,
          stays_idle,
        ) refl (omega arith) (none_counted start.device_faults end.device_faults counted)
        (none_counted start.store_faults end.store_faults stored) (λ z. z)
        (λ told a way on ran alike. ends_reached legs goal a way on (ended.Mismatch d) old.made here.world end ran (sym (reads.cells.cells told))
        (λ moves goes. (
          goes,
          subst (λ (l : List ℕ). DiffersFirst goal l d) (sym (reads.cells.cells told))
              (differs_first tells start.cells goal at size d told (omega (arith, le, goal_long told)) alike finds),
        )))

    -- the cells or the goal could not be read
    pub compare_unread : (e : TargetEnd) → IsSoundEnd tells (size_for old) e end
        → IsCounted start.device_faults end.device_faults (is_device_fault (target_fault e))
        → IsCounted start.store_faults end.store_faults (is_store_fault (target_fault e)) → (IsDone (place.Ended e) → ⊥)
        → ((moves : List Move) (a : Stand) → BreaksOff a moves end → EndIs a moves goal e end)
        → Turns tells goal old arena start (record old { place = place.Ended e }) arena end
    compare_unread e script device store other to = compare_turn (place.Ended e) script refl (omega arith) device store other
        (λ told a way on ran alike. broke_off legs goal a way none on e old.made here.world end ran (reads.cells.cells told)
        (reads.cells.operation told ∙ fit.agrees.operation told) (λ moves off. to moves a off))

  -- ---- the close

  module _ (is : old.place ≡ place.Closing) (end : BenchState) (stay : CellsStay start end)
      (moments : IsTrue tells → Leaves (file_half start) (file_half end) (IsWholeOrClosed (drop 1 start.file)))
      (law : IsTrue tells → (y : List ℕ) → left (cells_half start) y ↔ SameOutside start.operation start.cells y) where
    at_rest : AgreesAt tells old.calls end
    at_rest = record { count = stay.count ∙ fit.agrees.count; operation = λ told. stay.operation ∙ fit.agrees.operation told }

    abbrev closed : TargetEnd → Player
    closed e = record old { place = place.Ended e }

    close_turn : (e : TargetEnd) → IsSoundEnd tells (size_for old) e end → is_device_fault (target_fault e) ≡ false
        → IsCounted start.store_faults end.store_faults (is_store_fault (target_fault e)) → (IsTrue tells → EndFile e start.file end.file)
        → (IsTrue tells → (a : Stand) (way : List Move) → OnWay legs way none → run a way ≡ Ok (stand_at old.made here.world) → start.cells ≡ goal
        → HasEnded (all_legs legs) goal a way e end)
        → Turns tells goal old arena start (closed e) arena end
    close_turn e script other store file to =
        let same : SameTarget old (closed e) = kept (closed e) refl refl refl refl refl refl in
        turn_made tells goal old (closed e) arena arena start end fit same refl (twins_still old (closed e) same refl refl fit.scripted.twins) refl
        (only_here arena old.window) fit.fits at_rest script
        (omega (arith, fit.room))
        (omega (arith, turns_before place.Closing is))
        stay.count (file_turn tells old.place place.Closing (place.Ended e) start end is (record { moments = moments; file = file; cells = stay; over = refl }))
        (subst (λ (b : Bool). IsCounted start.device_faults end.device_faults b) (sym other) (none_counted start.device_faults end.device_faults stay.faults))
        store
        (λ told a way stands. let on = stood place.Closing is a way stands in
        no_more a way goal (closed e) arena start end (to told a way on.0 on.1 on.2)
        (stays_leaves (IsLeftOnWay a way) (λ y at. left_at_end a way old.made here.world start y on.1 refl (fit.agrees.operation told) ((law told y).0 at))
        stay.half))

    pub done_turn : end.store_faults ≡ start.store_faults → (IsTrue tells → end.file ≡ 0 ∷ drop 1 start.file)
        → Turns tells goal old arena start (closed ended.Done) arena end
    done_turn counted file = close_turn ended.Done tt refl (none_counted start.store_faults end.store_faults counted) file
        (λ told a way on ran same. ends_reached legs goal a way on ended.Done old.made here.world end ran (sym stay.cells)
        (λ moves goes. (goes, stay.cells ∙ same)))

    pub store_turn : start.store_faults ≤ end.store_faults → Rose start.store_faults end.store_faults
        → (IsTrue tells → IsWholeOrClosed (drop 1 start.file) end.file) → Turns tells goal old arena start (closed ended.StoreFault) arena end
    store_turn later rose file = close_turn ended.StoreFault tt refl (one_counted start.store_faults end.store_faults later rose) file
        (λ told a way on ran same. broke_off legs goal a way none on ended.StoreFault old.made here.world end ran stay.cells
        (stay.operation ∙ fit.agrees.operation told) (λ moves off. off))
