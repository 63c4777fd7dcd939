-- What the surveys of a job's regions found, one after another, is the survey of the job. `survey_for` joins its two surveys by these lemmas.
use Rattle.std.proofs.Common.{◌≡◌, ◌<◌, ◌+◌, ◌^◌, ◌∙◌, ℕ, Bool, IsTrue, is_some, Result, Err, List, [], ◌∷◌, map, option_to_list, length, take, drop}
use Rattle.std.proofs.Common.{Option, Some, None, sym, ap, subst, arith}
use Rattle.std.proofs.lemmas.List.{take_all}
use Rattle.std.proofs.lemmas.List.Elements.{All-append}
use Rattle.std.specs.Borrow.{Bor}
use Rattle.bench_model.specs.State.{BenchState}
use Rattle.board_file.specs.Limits.{size_of}
use Rattle.board_file.specs.Shown.{Shown as BoardShown, shown as board_of}
use Rattle.flm_descriptor.specs.Shown.{Shown as AlgorithmShown}
use Rattle.flash_layout.specs.Areas.{areas_of}
use Rattle.page_geometry.specs.Geometry.{Geometry}
use Rattle.erase_planner.specs.Plans.{IsLeastPlan}
use Rattle.algo_calls.specs.Duties.{cells_before}
use Rattle.job_text.specs.Fits.{all_fit}
use Rattle.job_text.specs.declared.job.Job.{Job}
use Rattle.flash_session.specs.declared.region_plan.RegionPlan.{RegionPlan}
use Rattle.flash_session.specs.declared.fault.SurveyFault.{SurveyFault}
use Rattle.bench_model.specs.Counted.{BenchFault, fault_in, IsCounted}
use Rattle.flash_session.specs.Found.{IsFound, AreFound}
use Rattle.flash_session.specs.Script.{Planned}
use Rattle.flash_session.specs.Surveys.{planned_of, IsPlannedFor, ArePlannedFor, survey_fault, HasSurveyed}
use Rattle.job_text.specs.Said.{algorithms_shown}
use Rattle.flash_session.specs.declared.goal.Goal.{Goal}
use Rattle.flash_session.specs.declared.region_plan.SessionWork.{SessionWork}
use Rattle.flash_session.specs.Goals.{goal_in}
use Rattle.flash_session.specs.RegionPlans.{IsRegionPlanFor}
use Rattle.flash_session.specs.Sources.{IsMadeFrom}
use Rattle.flash_session.specs.declared.region_survey.Source.TheVariants as from
use Rattle.flash_session.specs.SurveyFacts.{AreRegionSurveys}
use Rattle.flash_session.proofs.JobLemmas.{sizes_are, second_start}
use Rattle.flash_session.proofs.PartLemmas.{two_parts}
use Rattle.flash_session.proofs.SurveyLemmas.{AreBytes}

plan_still : (tells : Bool) (b : BoardShown) (a : AlgorithmShown) (c d g h : List ℕ) (p : Planned) → (IsTrue tells → c ≡ d) → (IsTrue tells → g ≡ h)
    → IsPlannedFor tells b a c g p → IsPlannedFor tells b a d h p
plan_still tells b a c d g h p one two is = record {
  layout = is.layout;
  lawful = is.lawful;
  base = is.base;
  empty = is.empty;
  plan = λ told. subst (λ (x : List ℕ). IsLeastPlan p.layout b.weights (is_some a.entries.erase_chip) a.device.empty d x p.plan) (two told)
      (subst (λ (x : List ℕ). IsLeastPlan p.layout b.weights (is_some a.entries.erase_chip) a.device.empty x g p.plan) (one told) (is.plan told));
  some = is.some;
  entry = is.entry;
}

found_still : (tells : Bool) (j : Job) (a : AlgorithmShown) (start : ℕ) (c d g h : List ℕ) (r : RegionPlan) → (IsTrue tells → c ≡ d) → (IsTrue tells → g ≡ h)
    → IsFound tells j a start c g r → IsFound tells j a start d h r
found_still tells j a start c d g h r one two is =
    let mine : (x y : List ℕ) → x ≡ y → take a.device.size (drop start x) ≡ take a.device.size (drop start y) =
    λ x y same. ap (λ (l : List ℕ). take a.device.size (drop start l)) same in
    record {
      plan = plan_still tells (board_of j.board) a (take a.device.size (drop start c)) (take a.device.size (drop start d)) (take a.device.size (drop start g))
          (take a.device.size (drop start h)) (planned_of r)
          (λ told. mine c d (one told)) (λ told. mine g h (two told)) is.plan;
      work = is.work;
      bytes = λ told. subst (λ (l : List ℕ). AreBytes l) (mine c d (one told)) (is.bytes told);
      wanted = λ told. subst (λ (l : List ℕ). AreBytes l) (mine g h (two told)) (is.wanted told);
    }

-- what a survey with the goal of a job makes of the memory for a region's plan
pub found_by : (tells : Bool) (j : Bor Job) (g : Goal) (a : AlgorithmShown) (start : ℕ) (s : BenchState) (r : RegionPlan) → IsRegionPlanFor a r →
    r.start ≡ start
    → IsMadeFrom tells (from.Job j g) j.now.board.weights a r.geometry r.start s r.plan.made → IsFound tells j.now a start s.cells (goal_in j.now g s.file) r
found_by tells j g a start s r part place made =
    let b = board_of j.now.board in
    let all = goal_in j.now g s.file in
    let cells : IsTrue tells → made.cells ≡ take a.device.size (drop start s.cells) = λ told. made.told told
    ∙ ap (λ (k : ℕ). take a.device.size (drop k s.cells)) place in
    let wanted : IsTrue tells → made.wanted ≡ take a.device.size (drop start all) = λ told.
    made.are told ∙ ap (λ (k : ℕ). take k (drop r.start all)) made.long ∙ ap (λ (k : ℕ). take a.device.size (drop k all)) place in
    record {
      plan = record {
        layout = part.layout;
        lawful = part.lawful;
        base = part.base;
        empty = part.empty;
        plan = λ told. subst (λ (x : List ℕ). IsLeastPlan r.geometry b.weights (is_some a.entries.erase_chip) a.device.empty
            (take a.device.size (drop start s.cells)) x r.plan.made) (wanted told)
            (subst (λ (x : List ℕ). IsLeastPlan r.geometry b.weights (is_some a.entries.erase_chip) a.device.empty x made.wanted r.plan.made)
            (cells told) made.least);
        some = record { cells = made.cells; goal = made.wanted; long = made.long ∙ sym (ap (λ (l : Geometry). l.size) part.layout); least = made.least };
        entry = made.entry;
      };
      work = record {
        work = record { size = ap (λ (l : Geometry). l.size) part.layout; fit = part.fit; entry = made.entry; empty = part.empty };
        base = part.base;
        end = part.end;
        place = place;
      };
      bytes = λ told. subst (λ (l : List ℕ). AreBytes l) (cells told) made.bytes;
      wanted = λ told. subst (λ (l : List ℕ). AreBytes l) (wanted told) made.wanted_bytes;
    }

-- what was found stays true if cells and file were only read
pub later_still : (tells : Bool) (j : Job) (start : ℕ) (algorithms : List AlgorithmShown) (c d g h : List ℕ) (works : List RegionPlan)
    → (IsTrue tells → c ≡ d) → (IsTrue tells → g ≡ h)
    → AreFound tells j start algorithms c g works → AreFound tells j start algorithms d h works
later_still tells j start [] c d g h [] one two are = tt
later_still tells j start (a ∷ rest) c d g h (r ∷ more) one two are =
    (found_still tells j a start c d g h r one two are.0, later_still tells j (start + a.device.size) rest c d g h more one two are.1)
later_still tells j start algorithms c d g h works one two are = absurd are

-- the plan of one region, followed by the plans of the regions after it
pub found_then : (tells : Bool) (j : Job) (a : AlgorithmShown) (rest : List AlgorithmShown) (cells goal : List ℕ) (r : RegionPlan) (more : List RegionPlan)
    → IsFound tells j a 0 cells goal r → AreFound tells j a.device.size rest cells goal more
    → AreFound tells j 0 (a ∷ rest) cells goal (r ∷ more)
found_then tells j a rest cells goal r more one later = let e : a.device.size ≡ 0 + a.device.size = omega arith in
    (one, subst (λ (n : ℕ). AreFound tells j n rest cells goal more) e later)

pub works_found : (tells : Bool) (j : Job) (start : ℕ) (algorithms : List AlgorithmShown) (cells goal : List ℕ) (works : List RegionPlan)
    → AreFound tells j start algorithms cells goal works → AreRegionSurveys algorithms start works
works_found tells j start [] cells goal [] are = tt
works_found tells j start (a ∷ rest) cells goal (r ∷ more) are = (are.0.work, works_found tells j (start + a.device.size) rest cells goal more are.1)
works_found tells j start algorithms cells goal works are = absurd are

-- a refusal that a function passes on counts the same faults as before
abbrev pub refused : (T : Type 0) → SurveyFault → Result T SurveyFault
refused T e = Err e

pub handed : (is : Option BenchFault → Bool) (T : Type 0) (a b : ℕ) (r : Result T SurveyFault) (e : SurveyFault) → r ≡ refused T e
    → IsCounted a b (is (survey_fault e)) → IsCounted a b (is (fault_in survey_fault r))
handed is T a b r e same one = subst (λ (q : Result T SurveyFault). IsCounted a b (is (fault_in survey_fault q))) (sym same) one

-- two parts that are lists of bytes make a list of bytes
both_bytes : (n m at : ℕ) (cells : List ℕ) → length cells ≡ n + m → at ≡ n → AreBytes (take n cells) → AreBytes (take m (drop at cells)) → AreBytes cells
both_bytes n m at cells long is one two =
    subst (λ (l : List ℕ). AreBytes l) (sym (two_parts n m cells long))
    (All-append (λ v. v < 2 ^ 8) (take n cells) (take m (drop n cells)) one (subst (λ (k : ℕ). AreBytes (take m (drop k cells))) is two))

module _ (tells : Bool) (j : Job) (cells goal : List ℕ) (long : IsTrue tells → length cells ≡ size_of j.board.regions)
    (goal_long : IsTrue tells → length goal ≡ size_of j.board.regions) (first : RegionPlan) where
  abbrev b : BoardShown
  b = board_of j.board

  pub record IsWhole (algorithms : List AlgorithmShown) (second : Option RegionPlan) : Type 0 where
    pub plans : ArePlannedFor tells b 0 algorithms cells goal (map planned_of (first ∷ option_to_list second))
    pub bytes : IsTrue tells → AreBytes cells
    pub wanted : IsTrue tells → AreBytes goal

  pub whole_found : (algorithms : List AlgorithmShown) (second : Option RegionPlan) → IsTrue (all_fit b j.board.regions algorithms)
      → AreFound tells j 0 algorithms cells goal (first ∷ option_to_list second) → IsWhole algorithms second
  whole_found [] second fit are = absurd are
  whole_found (a ∷ []) None fit are =
      let total = sizes_are b j.board.regions (a ∷ []) fit in
      record {
        plans = (are.0.plan, tt);
        bytes = λ told. subst (λ (l : List ℕ). AreBytes l) (take_all a.device.size cells (omega (arith, long told, total))) (are.0.bytes told);
        wanted = λ told. subst (λ (l : List ℕ). AreBytes l) (take_all a.device.size goal (omega (arith, goal_long told, total))) (are.0.wanted told);
      }
  whole_found (a ∷ []) (Some r) fit are = absurd are.1
  whole_found (a ∷ c ∷ rest) None fit are = absurd are.1
  whole_found (a ∷ c ∷ []) (Some r) fit are =
      let total = sizes_are b j.board.regions (a ∷ c ∷ []) fit in
      let start = second_start b j.board.regions a c [] fit in
      let at : 0 + a.device.size ≡ cells_before (areas_of j.board.regions) 1 = omega (arith, start) in
      let zero : 0 + a.device.size ≡ a.device.size = omega arith in
      record {
        plans = (
          are.0.plan,
          (subst (λ (n : ℕ). IsPlannedFor tells b c (take c.device.size (drop n cells)) (take c.device.size (drop n goal)) (planned_of r)) at are.1.0.plan, tt),
        );
        bytes = λ told. both_bytes a.device.size c.device.size (0 + a.device.size) cells (omega (arith, long told, total)) zero (are.0.bytes told)
            (are.1.0.bytes told);
        wanted = λ told. both_bytes a.device.size c.device.size (0 + a.device.size) goal (omega (arith, goal_long told, total)) zero (are.0.wanted told)
            (are.1.0.wanted told);
      }
  whole_found (a ∷ c ∷ d ∷ rest) (Some r) fit are = absurd are.1.1

-- the plans of all regions are what a survey of the job finds
pub surveyed_all : (tells : Bool) (j : Job) (g : Goal) (file cells : List ℕ) → (IsTrue tells → length cells ≡ size_of j.board.regions)
    → (IsTrue tells → length (goal_in j g file) ≡ size_of j.board.regions) → (t : SessionWork) → t.goal ≡ g
    → AreFound tells j 0 (algorithms_shown j.algorithms) cells (goal_in j g file) (t.first ∷ option_to_list t.second)
    → HasSurveyed tells j g file cells (record { regions = map planned_of (t.first ∷ option_to_list t.second); goal = t.goal })
surveyed_all tells j g file cells long goal_long t is are =
    let whole = whole_found tells j cells (goal_in j g file) long goal_long t.first (algorithms_shown j.algorithms) t.second j.fit are in
    record { regions = whole.plans; goal = is; bytes = whole.bytes; wanted = whole.wanted }
