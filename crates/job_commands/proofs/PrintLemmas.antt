-- What the work on a job prints, step by step up to the end of a command.
use Rattle.std.proofs.Common.{◌≡◌, ◌≤◌, ◌<◌, ◌+◌, ◌^◌, ◌++◌, ◌==◌, ◌∙◌, inl, inr, refl, sym, ap, subst, arith, append-nil, ℕ, zero, suc, Bool, true, false}
use Rattle.std.proofs.Common.{List, [], ◌∷◌, length, get_or, sum_by, Option, Some, None, IfSome, IsSome, IsSomeAnd, Result, Ok, Err, IsErr}
use Rattle.std.proofs.lemmas.Bool.{and_parts, eqb-true}
use Rattle.std.proofs.lemmas.List.Sums.{sum_by-cons}
use Rattle.outside_io.specs.State.{SinkState}
use Rattle.outside_io.specs.declared.sink.OutputFault.{OutputFault}
use Rattle.outside_io.specs.Puts.{Puts}
use Rattle.outside_io.proofs.PutTexts.{puts_as, puts_then, puts_stops, puts_failed}
use Rattle.page_geometry.specs.Geometry.{Geometry}
use Rattle.erase_planner.specs.Plans.{Chosen}
use Rattle.board_file.specs.declared.region.Region.{Region}
use Rattle.board_file.specs.Limits.{size_of}
use Rattle.board_file.specs.Shown as board
use Rattle.flm_descriptor.specs.declared.algorithm.Algorithm.{Algorithm}
use Rattle.flm_descriptor.specs.Shown as flm
use Rattle.algo_loader.specs.Places.{has_room}
use Rattle.job_text.specs.Said.{algorithms_shown}
use Rattle.job_text.specs.Fits.{is_device_of, fits, all_fit}
use Rattle.job_text.specs.declared.job.Job as code
use Rattle.job_file.specs.declared.fault.OpenFault.TheVariants as opening
use Rattle.flash_session.specs.declared.fault.SessionFault.{SessionFault}
use Rattle.flash_session.specs.declared.fault.SessionFault.TheVariants as session
use Rattle.flash_session.specs.declared.fault.SurveyFault.{SurveyFault}
use Rattle.flash_session.specs.declared.fault.SurveyFault.TheVariants as survey
use Rattle.flash_session.specs.declared.goal.Goal.{Goal}
use Rattle.flash_session.specs.Goals.{goal_in}
use Rattle.flash_session.specs.Script.{Planned, planned}
use Rattle.flash_session.specs.Surveys.{Surveyed, ArePlannedFor, HasSurveyed}
use Rattle.report_text.specs.Plan.{plan_text}
use Rattle.report_text.specs.Region.{region_text}
use Rattle.report_text.specs.Refusal.{Refusal, no_job, store_fault, device_fault, output_fault, call_failed, mismatch}
use Rattle.command_files.specs.Call.{SinkCall, sink_call, Answer, done, refused}
use Rattle.command_files.specs.Said.{TookNothing, TookAll}
use Rattle.command_files.specs.Answered.{IsOf}
use Rattle.job_commands.specs.Work.{shown_region, plans_shown}
use Rattle.job_commands.specs.Printed.{IsPlanFor, ArePlansFor, AreChosen, OfSomePlans, PrintsWork, PrintsEnd}
use Rattle.job_commands.specs.Steps.{has_script, has_start, begun}
use Rattle.job_commands.specs.Refused.{of_session, of_survey}
use Rattle.job_commands.specs.Begin.{PrintsBegun}
use Rattle.job_commands.proofs.CarryLemmas.{all_then, nothing_then, part_then}
use Rattle.job_commands.proofs.FitLemmas.{shown_length, some_algorithm, few_algorithms}

-- Before the plans are printed.

pub session_prints : (count : ℕ) (out : SinkCall) (fault : SessionFault) → TookNothing out → PrintsWork count out (refused (of_session fault))
session_prints count out (session.Open opening.StoreFault) none = inl none
session_prints count out session.DeviceFault none = inl none
session_prints count out fault none = none

pub survey_prints : (count : ℕ) (out : SinkCall) (fault : SurveyFault) → TookNothing out → PrintsWork count out (refused (of_survey fault))
survey_prints count out survey.OutOfMemory none = none
survey_prints count out fault none = inl none

pub start_prints : (count : ℕ) (out : SinkCall) (r : Refusal) → IsOf has_start (refused r) → TookNothing out → PrintsWork count out (refused r)
start_prints count out store_fault kind none = inl none
start_prints count out device_fault kind none = inl none
start_prints count out output_fault kind none = absurd (cc)
start_prints count out (call_failed number call end) kind none = absurd (cc)
start_prints count out (mismatch at wanted found) kind none = absurd (cc)
start_prints count out r kind none = none

pub start_prints_begun : (count : ℕ) (out : SinkCall) (r : Refusal) → IsOf has_start (refused r) → TookNothing out → PrintsBegun count out (refused r)
start_prints_begun count out output_fault kind none = absurd (cc)
start_prints_begun count out r kind none = none

pub begun_prints : (count : ℕ) (out : SinkCall) (answer : Answer) → PrintsWork count out answer → PrintsWork count out (begun answer)
begun_prints count out (refused no_job) prints = prints
begun_prints count out answer prints = prints

-- The plans of a survey.

pub plans_for : (tells : Bool) (b : board.Shown) (region : ℕ) (algorithms : List flm.Shown) (cells goal : List ℕ) (plans : List Planned)
    → ArePlannedFor tells b region algorithms cells goal plans → ArePlansFor algorithms plans
plans_for tells b region [] cells goal [] are = tt
plans_for tells b region (a ∷ rest) cells goal (p ∷ more) are =
    (record { layout = are.0.layout; lawful = are.0.lawful; base = are.0.base }, plans_for tells b (region + 1) rest cells goal more are.1)
plans_for tells b region algorithms cells goal plans are = absurd are

pub surveyed_plans : (tells : Bool) (j : code.Job) (goal : Goal) (file cells : List ℕ) (o : Option Surveyed)
    → IsSomeAnd o (λ v. HasSurveyed tells j goal file cells v)
    → IsSomeAnd o (λ v. ArePlansFor (algorithms_shown j.algorithms) v.regions)
surveyed_plans tells j goal file cells None has = absurd has
surveyed_plans tells j goal file cells (Some v) has = plans_for tells (board.shown j.board) 0 (algorithms_shown j.algorithms) cells
    (goal_in j goal file) v.regions has.regions

pub as_many : (algorithms : List flm.Shown) (plans : List Planned) → ArePlansFor algorithms plans → length plans ≡ length algorithms
as_many [] [] are = refl
as_many (a ∷ rest) (p ∷ more) are = ap suc (as_many rest more are.1)
as_many algorithms plans are = absurd are

are_chosen : (tells : Bool) (b : board.Shown) (region : ℕ) (algorithms : List flm.Shown) (cells goal : List ℕ) (plans : List Planned)
    → ArePlannedFor tells b region algorithms cells goal plans → AreChosen b.weights algorithms plans
are_chosen tells b region [] cells goal [] are = tt
are_chosen tells b region (a ∷ rest) cells goal (p ∷ more) are = (
  record { device = record { layout = are.0.layout; lawful = are.0.lawful; base = are.0.base }; plan = are.0.some },
  are_chosen tells b (region + 1) rest cells goal more are.1,
)
are_chosen tells b region algorithms cells goal plans are = absurd are

-- the plans have as many cells as the regions together
fill : (b : board.Shown) (regions : List Region) (algorithms : List flm.Shown) (plans : List Planned) → ArePlansFor algorithms plans
    → all_fit b regions algorithms ≡ true
    → sum_by (λ (p : Planned). p.layout.size) plans ≡ size_of regions
fill b [] [] [] are fit = refl
fill b [] [] (p ∷ more) are fit = absurd are
fill b [] (a ∷ rest) plans are fit = absurd (cc)
fill b (r ∷ rs) [] plans are fit = absurd (cc)
fill b (r ∷ rs) (a ∷ rest) [] are fit = absurd are
fill b (r ∷ rs) (a ∷ rest) (p ∷ more) are fit =
    let both = and_parts (fits b r a) (all_fit b rs rest) fit in
    let device = and_parts (is_device_of r a.device) (has_room a b) both.0 in
    let same = and_parts (r.base == a.device.base) (r.size == a.device.size) device.0 in
    let size : p.layout.size ≡ a.device.size = ap (λ (l : Geometry). l.size) are.0.layout in
    omega (
      arith,
      sum_by-cons (λ (p : Planned). p.layout.size) p more,
      sum_by-cons (λ (region : Region). region.size) r rs,
      fill b rs rest more are.1 both.1,
      eqb-true r.size a.device.size same.1,
      size,
    )

record IsFor (j : code.Job) (count : ℕ) (plans : List Planned) : Type 0 where
  some : 1 ≤ length plans
  few : length plans ≤ 2
  chosen : AreChosen j.board.weights (algorithms_shown j.algorithms) plans
  size : sum_by (λ (p : Planned). p.layout.size) plans ≡ count

is_for : (tells : Bool) (j : code.Job) (goal : Goal) (file cells : List ℕ) (v : Surveyed) (count : ℕ) → HasSurveyed tells j goal file cells v
    → size_of j.board.regions ≡ count → IsFor j count v.regions
is_for tells j goal file cells v count has size =
    let b = board.shown j.board in
    let algorithms = algorithms_shown j.algorithms in
    let are = plans_for tells b 0 algorithms cells (goal_in j goal file) v.regions has.regions in
    let many = as_many algorithms v.regions are ∙ shown_length j.algorithms in
    record {
      some = omega (arith, many, some_algorithm j);
      few = omega (arith, many, few_algorithms j);
      chosen = are_chosen tells b 0 algorithms cells (goal_in j goal file) v.regions has.regions;
      size = fill b j.board.regions algorithms v.regions are j.fit ∙ size;
    }

module _ (sinks : Bool) (j : code.Job) (count : ℕ) (plans : List Planned) (fits : IsFor j count plans) (p q : SinkState) where
  of_plans : (Printed : List ℕ → Type 0) → Printed (plans_shown plans) → OfSomePlans count Printed
  of_plans Printed printed = record { job = j; plans = plans; some = fits.some; few = fits.few; chosen = fits.chosen; size = fits.size; printed = printed }

  module _ (r : SinkState) (one : TookAll (sink_call sinks p q) (plans_shown plans)) where
    behind : TookNothing (sink_call sinks q r) → OfSomePlans count (λ text. TookAll (sink_call sinks p r) text)
    behind none = of_plans _ (nothing_then sinks p q r (plans_shown plans) one none)

    then_prints : (answer : Answer) → IsOf has_script answer → PrintsEnd (sink_call sinks q r) answer → PrintsWork count (sink_call sinks p r) answer
    then_prints done kind prints = of_plans _ (all_then sinks p q r (plans_shown plans) one _ prints)
    then_prints (refused output_fault) kind prints = of_plans _ (inr (part_then sinks p q r (plans_shown plans) one _ prints))
    then_prints (refused store_fault) kind prints = inr (behind prints)
    then_prints (refused device_fault) kind prints = inr (behind prints)
    then_prints (refused (call_failed number call end)) kind prints = behind prints
    then_prints (refused (mismatch at wanted found)) kind prints = behind prints
    then_prints (refused other) kind prints = absurd (cc)

-- A survey of a job for `count` cells, with its plans printed.
module _ (sinks tells : Bool) (j : code.Job) (goal : Goal) (file cells : List ℕ) (count : ℕ) (size : size_of j.board.regions ≡ count) (p q : SinkState) where
  pub cut_prints : (o : Option Surveyed) (e : OutputFault) → IsSomeAnd o (λ v. HasSurveyed tells j goal file cells v)
      → IfSome o (λ v. Puts sinks p q (plans_shown v.regions) (Err e)) → PrintsWork count (sink_call sinks p q) (refused output_fault)
  cut_prints None e has puts = absurd has
  cut_prints (Some v) e has puts =
      of_plans sinks j count v.regions (is_for tells j goal file cells v count has size) p q _
      (inl (record { taken = puts.err; later = puts.cause.later; rose = puts.cause.on_fault refl }))

  pub end_prints : (o : Option Surveyed) (u : Unit {0}) → IsSomeAnd o (λ v. HasSurveyed tells j goal file cells v)
      → IfSome o (λ v. Puts sinks p q (plans_shown v.regions) (Ok u)) → (r : SinkState) (answer : Answer) → IsOf has_script answer
      → PrintsEnd (sink_call sinks q r) answer
      → PrintsWork count (sink_call sinks p r) answer
  end_prints None u has puts r answer kind prints = absurd has
  end_prints (Some v) u has puts r answer kind prints =
      then_prints sinks j count v.regions (is_for tells j goal file cells v count has size) p q r
      (record { taken = puts.ok; faults = puts.cause.on_ok refl }) answer kind prints

-- ---- how the plans are put

-- the plan of a region with this algorithm
plan_at : (algorithms : List Algorithm) (plans : List Planned) (region : ℕ) (a : Algorithm) (other : Planned) → ArePlansFor (algorithms_shown algorithms) plans
    → region < length algorithms → a ≡ get_or algorithms region a → IsPlanFor (flm.shown a) (get_or plans region other)
plan_at [] plans region a other are less is = absurd (omega (arith, less))
plan_at (x ∷ xs) [] region a other are less is = absurd are
plan_at (x ∷ xs) (p ∷ more) zero a other are less is = subst (λ (y : Algorithm). IsPlanFor (flm.shown y) p) (sym is) are.0
plan_at (x ∷ xs) (p ∷ more) (suc n) a other are less is = plan_at xs more n a other are.1 (omega (arith, less)) is

module _ (algorithms : List Algorithm) (region : ℕ) (a : Algorithm) (less : region < length algorithms) (is : a ≡ get_or algorithms region a)
    (geometry : Geometry) where
  -- the addresses of a plan's device are below 2 ^ 32
  pub fits_memory : (plan : Chosen) (o : Option Surveyed) → IsSomeAnd o (λ v. ArePlansFor (algorithms_shown algorithms) v.regions)
      → IfSome o (λ v. (other : Planned) → geometry ≡ (get_or v.regions region other).layout) → a.device.base + geometry.size ≤ 2 ^ 32
  fits_memory plan None are lays = absurd are
  fits_memory plan (Some v) are lays =
      let other = planned geometry 0 plan in
      let its = plan_at algorithms v.regions region a other are less is in
      let size : geometry.size ≡ a.device.size = ap (λ (l : Geometry). l.size) (lays other ∙ its.layout) in
      omega (arith, size, a.in_memory)

  pub text_at : (plan : Chosen) (o : Option Surveyed) → IsSomeAnd o (λ v. ArePlansFor (algorithms_shown algorithms) v.regions)
      → IfSome o (λ v. (other : Planned) → geometry ≡ (get_or v.regions region other).layout)
      → IfSome o (λ v. (other : Planned) → plan ≡ (get_or v.regions region other).plan)
      → IfSome o (λ v. (other : Planned) → plan_text geometry a.device.base plan ≡ (shown_region (get_or v.regions region other)).1)
  text_at plan None are lays plans = tt
  text_at plan (Some v) are lays plans = λ other.
      let its = plan_at algorithms v.regions region a other are less is in
      ap (λ (l : Geometry). plan_text l a.device.base plan) (lays other)
      ∙ ap (λ (n : ℕ). plan_text (get_or v.regions region other).layout n plan) (sym its.base)
      ∙ ap (λ (c : Chosen). plan_text (get_or v.regions region other).layout (get_or v.regions region other).base c) (plans other)

-- a text that was put is the text of each plan that has this text
pub put_text : (tells : Bool) (p q : SinkState) (text : List ℕ) (result : Result (Unit {0}) OutputFault) (o : Option Surveyed)
    (Of : Surveyed → Planned → List ℕ)
    → IfSome o (λ v. (other : Planned) → text ≡ Of v other) → Puts tells p q text result
    → IfSome o (λ v. (other : Planned) → Puts tells p q (Of v other) result)
put_text tells p q text result None Of same puts = tt
put_text tells p q text result (Some v) Of same puts = λ other. puts_as (same other) puts

pub base_text : (algorithms : List Algorithm) (region : ℕ) (a : Algorithm) → region < length algorithms → a ≡ get_or algorithms region a → (o : Option Surveyed)
    → IsSomeAnd o (λ v. ArePlansFor (algorithms_shown algorithms) v.regions)
    → IfSome o (λ v. (other : Planned) → region_text a.device.base ≡ region_text (get_or v.regions region other).base)
base_text algorithms region a less is None are = tt
base_text algorithms region a less is (Some v) are = λ other. ap region_text (sym (plan_at algorithms v.regions region a other are less is).base)

-- the texts of the plans of one region, or of two
one_shown : (plans : List Planned) (other : Planned) → length plans ≡ 1 → (shown_region (get_or plans 0 other)).1 ≡ plans_shown plans
one_shown (p ∷ []) other one = refl
one_shown plans other one = absurd (omega (arith, one))

abbrev pub told_at : List Planned → ℕ → Planned → List ℕ
told_at plans region other = region_text (get_or plans region other).base ++ (shown_region (get_or plans region other)).1

two_shown : (plans : List Planned) (other : Planned) → length plans ≡ 2 → told_at plans 0 other ++ told_at plans 1 other ≡ plans_shown plans
two_shown (p ∷ []) other two = absurd (omega (arith, two))
two_shown (p ∷ q ∷ []) other two = ap (λ (l : List ℕ). told_at (p ∷ q ∷ []) 0 other ++ l) (sym (append-nil (told_at (p ∷ q ∷ []) 1 other)))
two_shown plans other two = absurd (omega (arith, two))

pub nothing_planned : Planned
nothing_planned = planned (record { size = 0; sectors = []; pages = [] }) 0 (record { chip = false; sectors = []; pages = []; cost = 0 })

module _ (tells : Bool) (algorithms : List Algorithm) (p q r : SinkState) where
  pub puts_one : (result : Result (Unit {0}) OutputFault) (o : Option Surveyed) → length algorithms ≡ 1
      → IsSomeAnd o (λ v. ArePlansFor (algorithms_shown algorithms) v.regions)
      → IfSome o (λ v. (other : Planned) → Puts tells p q (shown_region (get_or v.regions 0 other)).1 result)
      → IfSome o (λ v. Puts tells p q (plans_shown v.regions) result)
  puts_one result None one are puts = tt
  puts_one result (Some v) one are puts =
      puts_as (one_shown v.regions nothing_planned (as_many (algorithms_shown algorithms) v.regions are ∙ shown_length algorithms ∙ one)) (puts nothing_planned)

  pub puts_two : (u : Unit {0}) (result : Result (Unit {0}) OutputFault) (o : Option Surveyed) → length algorithms ≡ 2
      → IsSomeAnd o (λ v. ArePlansFor (algorithms_shown algorithms) v.regions)
      → IfSome o (λ v. (other : Planned) → Puts tells p q (told_at v.regions 0 other) (Ok u))
      → IfSome o (λ v. (other : Planned) → Puts tells q r (told_at v.regions 1 other) result)
      → IfSome o (λ v. Puts tells p r (plans_shown v.regions) result)
  puts_two u result None two are first second = tt
  puts_two u result (Some v) two are first second =
      puts_as (two_shown v.regions nothing_planned (as_many (algorithms_shown algorithms) v.regions are ∙ shown_length algorithms ∙ two))
      (puts_then result (first nothing_planned) (second nothing_planned))

  pub puts_cut : (e : OutputFault) (result : Result (Unit {0}) OutputFault) (o : Option Surveyed) → IsErr result → length algorithms ≡ 2
      → IsSomeAnd o (λ v. ArePlansFor (algorithms_shown algorithms) v.regions)
      → IfSome o (λ v. (other : Planned) → Puts tells p q (told_at v.regions 0 other) (Err e)) → IfSome o (λ v. Puts tells p q (plans_shown v.regions) result)
  puts_cut e result None failed two are first = tt
  puts_cut e result (Some v) failed two are first =
      puts_as (two_shown v.regions nothing_planned (as_many (algorithms_shown algorithms) v.regions are ∙ shown_length algorithms ∙ two))
      (puts_failed result failed (puts_stops (told_at v.regions 1 nothing_planned) (first nothing_planned)))

-- the line of a region, and then the text of its plan
module _ (tells : Bool) (p q : SinkState) (region : ℕ) where
  pub told_then : (r : SinkState) (u : Unit {0}) (text : List ℕ) (result : Result (Unit {0}) OutputFault) (o : Option Surveyed)
      → IfSome o (λ v. (other : Planned) → text ≡ region_text (get_or v.regions region other).base) → Puts tells p q text (Ok u)
      → IfSome o (λ v. (other : Planned) → Puts tells q r (shown_region (get_or v.regions region other)).1 result)
      → IfSome o (λ v. (other : Planned) → Puts tells p r (told_at v.regions region other) result)
  told_then r u text result None same first second = tt
  told_then r u text result (Some v) same first second = λ other. puts_then result (puts_as (same other) first) (second other)

  pub told_cut : (text : List ℕ) (e : OutputFault) (result : Result (Unit {0}) OutputFault) (o : Option Surveyed) → IsErr result
      → IfSome o (λ v. (other : Planned) → text ≡ region_text (get_or v.regions region other).base) → Puts tells p q text (Err e)
      → IfSome o (λ v. (other : Planned) → Puts tells p q (told_at v.regions region other) result)
  told_cut text e result None failed same first = tt
  told_cut text e result (Some v) failed same first = λ other.
      puts_failed result failed (puts_stops (shown_region (get_or v.regions region other)).1 (puts_as (same other) first))

pub some_surveyed : (P : Surveyed → Type 0) (o : Option Surveyed) → IsSomeAnd o P → IsSome o
some_surveyed P None has = absurd has
some_surveyed P (Some v) has = refl
