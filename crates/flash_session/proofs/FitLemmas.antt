-- A turn keeps what holds of a target, put together from its parts.
use Rattle.std.proofs.Common.{◌≡◌, ◌<◌, ◌+◌, ◌^◌, ◌∙◌, ℕ, Bool, IsTrue, List, [], length, refl, sym, ap, subst, arith}
use Rattle.bench_model.specs.State.{BenchState}
use Rattle.bench_model.specs.Calls.{FileStays, FileIsRead}
use Rattle.bench_model.specs.Counted.{is_store_fault, is_device_fault, IsCounted}
use Rattle.bench_model.proofs.Moments.{stays_adds_nothing}
use Rattle.job_text.specs.declared.job.Job.{Job}
use Rattle.flash_layout.specs.Areas.{cells_in}
use Rattle.flash_layout.specs.Maps.{FlashMap}
use Rattle.target_core.specs.Windows.{OnlyIn}
use Rattle.algo_calls.specs.Setups.{Setup}
use Rattle.algo_calls.specs.Shows.{AgreesAt, Fits}
use Rattle.flash_session.specs.Moves.{Move, Stand}
use Rattle.flash_session.specs.declared.phase.Phase.{Phase}
use Rattle.flash_session.specs.declared.phase.Phase.TheVariants as stage
use Rattle.flash_session.specs.declared.region_plan.SessionWork.{SessionWork}
use Rattle.flash_session.specs.declared.player.Player.{Player}
use Rattle.flash_session.specs.declared.target_end.TargetEnd.{TargetEnd}
use Rattle.flash_session.specs.declared.target_end.TargetEnd.TheVariants as ended
use Rattle.flash_session.specs.Fit.{legs_of, calls_ahead, turns_ahead, togo, IsScriptEnd, IsSoundEnd, IsPlace, IsRegionPlanOn, AreTwins, IsScripted, Fit}
use Rattle.flash_session.specs.Regions.{RegionIndex, First, Second}
use Rattle.flash_session.specs.Rest.{Legs, with_torn, unbroken}
use Rattle.flash_session.specs.Stands.{Stands, StandsOn}
use Rattle.flash_session.specs.Goals.{goal_in}
use Rattle.flash_session.specs.Targets.{setup_on, map_of, setup_now, region_in, point_for, legs_for, has_second, size_for, goal_for}
use Rattle.flash_session.specs.Turns.{SameTarget, GoesOn, Turns, FileTurn, place_fault}
use Rattle.flash_session.proofs.MachineLemmas.{has_same, legs_same}

pub unbroken_is : (r : RegionIndex) (p : Phase) → with_torn r p [] unbroken ≡ unbroken
unbroken_is First stage.Erase = refl
unbroken_is First stage.Program = refl
unbroken_is First stage.Verify = refl
unbroken_is Second stage.Erase = refl
unbroken_is Second stage.Program = refl
unbroken_is Second stage.Verify = refl

-- a sound end of a target is an end that its script may come to
pub of_script : (tells : Bool) (size : ℕ) (e : TargetEnd) (b : BenchState) → IsSoundEnd tells size e b → IsScriptEnd e
of_script tells size ended.Done b sound = tt
of_script tells size (ended.Open fault) b sound = absurd sound
of_script tells size (ended.Survey fault) b sound = absurd sound
of_script tells size (ended.CallFailed number call e) b sound = sound
of_script tells size (ended.Mismatch d) b sound = sound.1
of_script tells size ended.StoreFault b sound = tt
of_script tells size ended.DeviceFault b sound = tt

-- a file that isn't touched counts as one that is only read
pub file_kept : (tells : Bool) (s t : BenchState) → FileStays s t → FileIsRead tells s t
file_kept tells s t stays = record { file = λ told. stays.file; moments = stays_adds_nothing stays.half }

-- ---- the state of a target after a turn, by the script that it had before

pub stands_same : (old new : Player) (a : Stand) (way : List Move) (goal : List ℕ) (arena : List (List ℕ)) (now : BenchState) → SameTarget old new
    → Stands (legs_for old goal) goal (setup_now new) a way new.place new.made (point_for new arena now.cells) new.calls.machine.return_at now
    → StandsOn a way goal new arena now
stands_same old new a way goal arena now same stands =
    subst (λ (l : Legs). Stands l goal (setup_now new) a way new.place new.made (point_for new arena now.cells) new.calls.machine.return_at now)
    (sym (legs_same old new same goal)) stands

pub size_same : (old new : Player) → SameTarget old new → size_for new ≡ size_for old
size_same old new same = ap (λ (m : FlashMap). cells_in m.areas) (same.maps First)

pub goal_same : (j : Job) (old new : Player) (file : List ℕ) → SameTarget old new → goal_for j new file ≡ goal_for j old file
goal_same j old new file same = ap (λ (t : SessionWork). goal_in j t.goal file) same.work

part_same : (old new : Player) (r : RegionIndex) → SameTarget old new → length new.page.items ≡ length old.page.items
    → IsRegionPlanOn (setup_on old r) (size_for old) (length old.page.items) (region_in old.work r)
    → IsRegionPlanOn (setup_on new r) (size_for new) (length new.page.items) (region_in new.work r)
part_same old new r same page is =
    subst (λ (s : Setup). IsRegionPlanOn s (size_for new) (length new.page.items) (region_in new.work r)) (sym (same.setups r))
    (subst (λ (t : SessionWork). IsRegionPlanOn (setup_on old r) (size_for new) (length new.page.items) (region_in t r)) (sym same.work)
    (subst (λ (m : ℕ). IsRegionPlanOn (setup_on old r) m (length new.page.items) (region_in old.work r)) (sym (size_same old new same))
    (subst (λ (n : ℕ). IsRegionPlanOn (setup_on old r) (size_for old) n (region_in old.work r)) (sym page) is)))

pub scripted_same : (old new : Player) → SameTarget old new → length new.page.items ≡ length old.page.items → AreTwins new → IsScripted old → IsScripted new
scripted_same old new same page twins is = record {
  first = part_same old new First same page is.first;
  second = λ there. part_same old new Second same page (is.second (sym (has_same old new same) ∙ there));
  twins = twins;
}

pub turn_made : (tells : Bool) (goal : List ℕ) (old new : Player) (arena arena' : List (List ℕ)) (start end : BenchState)
    → Fit tells old arena start → SameTarget old new → length new.page.items ≡ length old.page.items → AreTwins new → map_of new.calls ≡ map_of old.calls
    → OnlyIn old.window arena arena' → Fits new.calls arena' new.window
    → AgreesAt tells new.calls end → IsPlace tells (has_second old) new.moved new.place (size_for old) end
    → new.made + calls_ahead (legs_of old) new.place < 2 ^ 32
    → turns_ahead (legs_of old) (size_for old) new.place < togo old → end.cell_count ≡ start.cell_count → FileTurn tells old.place new.place start end
    → IsCounted start.device_faults end.device_faults (is_device_fault (place_fault new.place))
    → IsCounted start.store_faults end.store_faults (is_store_fault (place_fault new.place))
    → (IsTrue tells → (a : Stand) (way : List Move) → StandsOn a way goal old arena start → GoesOn a way goal new arena' start end)
    → Turns tells goal old arena start new arena' end
turn_made tells goal old new arena arena' start end fit same page twins map only fits agrees place room near count file device store told =
    let size : size_for new ≡ size_for old = size_same old new same in
    let legs : legs_of new ≡ legs_of old = legs_same old new same [] in
    record {
      told = told;
      same = same;
      only = only;
      page = page;
      fit = record {
        scripted = scripted_same old new same page twins fit.scripted;
        fits = fits;
        agrees = agrees;
        wanted = ap (λ (m : FlashMap). cells_in m.areas) map ∙ fit.wanted ∙ sym size;
        some = subst (λ (n : ℕ). 0 < n) (sym size) fit.some;
        place = subst (λ (n : ℕ). IsPlace tells (has_second new) new.moved new.place n end) (sym size)
            (subst (λ (h : Bool). IsPlace tells h new.moved new.place (size_for old) end) (sym (has_same old new same)) place);
        room = omega (arith, ap (λ (l : Legs). calls_ahead l new.place) legs, room);
      };
      nearer = omega (arith, ap (λ (l : Legs). turns_ahead l (size_for new) new.place) legs, ap (λ (n : ℕ). turns_ahead (legs_of old) n new.place) size, near);
      count = count;
      file = file;
      device = device;
      store = store;
    }
