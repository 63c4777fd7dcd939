-- A survey of a region, window by window. `survey_windows` feeds the plan so, and the surveys of a job and of `plan` end with it.
use Rattle.std.proofs.Common.{◌≡◌, ◌<◌, ◌≤◌, ◌+◌, ◌-◌, ◌++◌, ◌∙◌, ◌^◌, ℕ, Bool, IsTrue, is_some, All, List, [], length, take, drop, OnOk, Result, Ok, Err, refl}
use Rattle.std.proofs.Common.{sym, ap, subst, arith, length-append}
use Rattle.std.proofs.Math.Seq.{take-add}
use Rattle.std.proofs.lemmas.List.{drop-drop}
use Rattle.std.specs.Borrow.{Bor}
use Rattle.bench_model.specs.State.{BenchState}
use Rattle.bench_model.specs.Calls.{FileStays, IsRead}
use Rattle.board_file.specs.declared.board.Weights.{Weights}
use Rattle.byte_map.specs.Image.{Run, over}
use Rattle.flm_descriptor.specs.Shown.{Shown as AlgorithmShown}
use Rattle.job_text.specs.Stands.{StandsFor}
use Rattle.page_geometry.specs.Geometry.{Geometry, IsGeometry, PagesFit}
use Rattle.erase_planner.specs.Marks.{PlanView, Fed, Covers}
use Rattle.erase_planner.specs.Plans.{Chosen, IsLeastPlan}
use Rattle.job_text.specs.declared.job.Job.{Job}
use Rattle.flash_session.specs.declared.goal.Goal.{Goal}
use Rattle.flash_session.specs.Goals.{goal_in}
use Rattle.flash_session.specs.RegionPlans.{IsRegionPlanFor, IsPlannedOver}
use Rattle.flash_session.specs.declared.region_plan.RegionPlan.{RegionPlan}
use Rattle.flash_session.specs.Sources.{AreWanted, IsMadeFrom, IsOverCells, IsSource}
use Rattle.flash_session.specs.declared.region_survey.Source.{Source}
use Rattle.flash_session.specs.declared.region_survey.Source.TheVariants as from
use Rattle.flash_session.proofs.GoalLemmas.{over_append}

abbrev pub AreBytes : List ℕ → Type 0
AreBytes cells = All (λ v. v < 2 ^ 8) cells

-- a bench that was only read gives the same goal
pub source_still : (tells : Bool) (source : Source) (a b : BenchState) → (IsTrue tells → b.file ≡ a.file) → b.cell_count ≡ a.cell_count
    → IsSource tells source a → IsSource tells source b
source_still tells (from.Job job goal) a b file count is = (is.0 ∙ sym count, λ told. subst (λ (f : List ℕ). StandsFor job.now f) (sym (file told)) (is.1 told))
source_still tells (from.Cells image) a b file count is = tt

-- the bytes wanted of the same cells, with the same file, are the same
pub wanted_still : (tells : Bool) (source : Source) (place address : ℕ) (a b cells wanted : List ℕ) → (IsTrue tells → a ≡ b)
    → AreWanted tells source place address a cells wanted
    → AreWanted tells source place address b cells wanted
wanted_still tells (from.Job job goal) place address a b cells wanted same is = λ told.
    is told ∙ ap (λ (f : List ℕ). take (length cells) (drop place (goal_in job.now goal f))) (same told)
wanted_still tells (from.Cells image) place address a b cells wanted same is = is

-- the goal of a job that was read from the job file
pub job_wanted : {T E : Type 0} (r : Result T E) (tells : Bool) (source : Source) (job : Bor Job) (goal : Goal) (place address n : ℕ)
    (file cells wanted : List ℕ) → source ≡ from.Job job goal → n ≡ length cells
    → (IsTrue tells → OnOk r (wanted ≡ take n (drop place (goal_in job.now goal file)))) → OnOk r (AreWanted tells source place address file cells wanted)
job_wanted (Ok v) tells source job goal place address n file cells wanted is same ok =
    subst (λ (x : Source). AreWanted tells x place address file cells wanted) (sym is)
    (λ told. ok told ∙ ap (λ (k : ℕ). take k (drop place (goal_in job.now goal file))) same)
job_wanted (Err e) tells source job goal place address n file cells wanted is same ok = tt

-- a place of a region is one of all cells
pub shifted : (start at n : ℕ) (xs : List ℕ) → take n (drop (start + at) xs) ≡ take n (drop at (drop start xs))
shifted start at n xs = ap (λ (l : List ℕ). take n l) (sym (drop-drop at start xs))

-- the front of the cells from a place on, and the part that follows it
pub front_and : (start at n : ℕ) (xs : List ℕ) → take at (drop start xs) ++ take n (drop (start + at) xs) ≡ take (at + n) (drop start xs)
front_and start at n xs = ap (λ (l : List ℕ). take at (drop start xs) ++ l) (shifted start at n xs) ∙ sym (take-add at n (drop start xs))

-- the bytes wanted of cells followed by more cells: those of the first part, then those of the second
pub wanted_and : (tells : Bool) (source : Source) (place address at : ℕ) (file o w more more_wanted : List ℕ)
    → length o ≡ at → AreWanted tells source place address file o w
    → AreWanted tells source (place + at) (address + at) file more more_wanted → AreWanted tells source place address file (o ++ more) (w ++ more_wanted)
wanted_and tells (from.Job job goal) place address at file o w more more_wanted long one two = λ told.
    let wanted = goal_in job.now goal file in
    ap (λ (l : List ℕ). l ++ more_wanted) (one told ∙ ap (λ (k : ℕ). take k (drop place wanted)) long)
    ∙ ap (λ (l : List ℕ). take at (drop place wanted) ++ l) (two told)
    ∙ front_and place at (length more) wanted
    ∙ ap (λ (k : ℕ). take k (drop place wanted)) (let e : at + length more ≡ length (o ++ more) = omega (arith, length-append o more, long) in e)
wanted_and tells (from.Cells image) place address at file o w more more_wanted long one two =
    ap (λ (l : List ℕ). l ++ more_wanted) one
    ∙ ap (λ (l : List ℕ). over image.now address o ++ l) (two ∙ ap (λ (k : ℕ). over image.now (address + k) more) (sym long))
    ∙ sym (over_append image.now address o more)

-- the region was surveyed up to this place
pub record SurveyedTo (tells : Bool) (source : Source) (l : Geometry) (empty address start : ℕ) (before now : BenchState) (plan : PlanView)
    (cells wanted : List ℕ) (at : ℕ) : Type 0 where
  pub within : at ≤ l.size
  pub cells_room : length cells ≡ 4096
  pub wanted_room : length wanted ≡ 4096
  pub front : List ℕ
  pub front_wanted : List ℕ
  pub long : length front ≡ at
  pub told : IsTrue tells → front ≡ take at (drop start before.cells)
  pub are : AreWanted tells source start address before.file front front_wanted
  pub bytes : AreBytes front
  pub wanted_bytes : AreBytes front_wanted
  pub fed : Fed l empty plan front front_wanted
  pub making : length plan.marks ≡ length l.pages
  pub count : plan.count ≡ at
  pub covers : Covers l plan
  pub reads : IsRead tells before now
  pub spares : IsOverCells source → FileStays before now
  pub store : now.store_faults ≡ before.store_faults
  pub device : now.device_faults ≡ before.device_faults

-- the whole region was surveyed, and its plan is made
pub made_from : (tells : Bool) (source : Source) (w : Weights) (a : AlgorithmShown) (l : Geometry) (start : ℕ) (before now : BenchState) (plan : PlanView)
    (cells wanted : List ℕ) (at : ℕ) (made : Chosen)
    → SurveyedTo tells source l a.device.empty a.device.base start before now plan cells wanted at → at ≡ a.device.size
    → ((o x : List ℕ) → Fed l a.device.empty plan o x → IsLeastPlan l w (is_some a.entries.erase_chip) a.device.empty o x made)
    → (IsTrue made.chip → IsTrue (is_some a.entries.erase_chip)) → IsMadeFrom tells source w a l start before made
made_from tells source w a l start before now plan cells wanted at made so_far all least entry = record {
  cells = so_far.front;
  wanted = so_far.front_wanted;
  long = so_far.long ∙ all;
  told = λ told. so_far.told told ∙ ap (λ (k : ℕ). take k (drop start before.cells)) all;
  are = so_far.are;
  bytes = so_far.bytes;
  wanted_bytes = so_far.wanted_bytes;
  least = least so_far.front so_far.front_wanted so_far.fed;
  entry = entry;
}

pub no_bytes : AreBytes []
no_bytes = λ k d less. absurd (omega (arith, less))

-- nothing is wanted of an empty list of cells
pub none_wanted : (tells : Bool) (source : Source) (place address : ℕ) (file : List ℕ) → AreWanted tells source place address file [] []
none_wanted tells (from.Job job goal) place address file = λ told. refl
none_wanted tells (from.Cells image) place address file = refl

-- a region's plan after it was made
pub part_after : {T E : Type 0} (r : Result T E) (a : AlgorithmShown) (old new : RegionPlan) → new.geometry ≡ old.geometry → new.base ≡ old.base →
    IsRegionPlanFor a old
    → OnOk r (Covers new.geometry new.plan)
    → OnOk r (IsRegionPlanFor a new)
part_after (Ok v) a old new geometry base is room = record {
  layout = geometry ∙ is.layout;
  lawful = subst (λ (l : Geometry). IsGeometry l) (sym geometry) is.lawful;
  fit = subst (λ (l : Geometry). PagesFit a.device.page l) (sym geometry) is.fit;
  room = room;
  base = base ∙ is.base;
  end = omega (arith, is.end, base, ap (λ (l : Geometry). l.size) geometry);
  empty = is.empty;
}
part_after (Err e) a old new geometry base is room = tt

-- a plan that leads to an image over the cells
pub planned_over : (tells : Bool) (w : Weights) (image : Bor (List Run)) (a : AlgorithmShown) (s : BenchState) (p : RegionPlan)
    → IsMadeFrom tells (from.Cells image) w a p.geometry p.start s p.plan.made
    → IsPlannedOver tells w image.now s.cells a p
planned_over tells w image a s p made = record {
  cells = made.cells;
  long = made.long;
  told = made.told;
  plan = subst (λ (x : List ℕ). IsLeastPlan p.geometry w (is_some a.entries.erase_chip) a.device.empty made.cells x p.plan.made) made.are made.least;
}
