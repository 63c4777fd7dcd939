-- What the work on a job prints, on every bench.
use Rattle.std.specs.Prelude.{◌≡◌, ◌≤◌, ◌⊎◌, ◌++◌, ℕ, List, [], ◌∷◌, length, is_some, sum_by}
use Rattle.board_file.specs.declared.board.Weights.{Weights}
use Rattle.flm_descriptor.specs.Shown as flm
use Rattle.page_geometry.specs.Geometry.{IsGeometry}
use Rattle.job_text.specs.Said.{algorithms_shown}
use Rattle.job_text.specs.declared.job.Job.{Job}
use Rattle.flash_session.specs.Script.{Planned}
use Rattle.flash_session.specs.Surveys.{IsSomePlan}
use Rattle.report_text.specs.Refusal.{store_fault, device_fault, output_fault, call_failed, mismatch}
use Rattle.algo_calls.specs.Duties.{device_of}
use Rattle.command_files.specs.Call.{SinkCall, Answer, done, refused}
use Rattle.command_files.specs.Said.{TookNothing, TookAll, TookPart, TookPartBehind, PrintsText}
use Rattle.job_commands.specs.Work.{plans_shown}
use Rattle.job_commands.specs.Carry.{done_text}

-- the plan has the geometry and the base address of an algorithm's device
pub record IsPlanFor (a : flm.Shown) (p : Planned) : Type 0 where
  pub layout : p.layout ≡ device_of a
  pub lawful : IsGeometry p.layout
  pub base : p.base ≡ a.device.base

-- each plan is one for the device of the algorithm in its place
abbrev pub ArePlansFor : List flm.Shown → List Planned → Type 0
ArePlansFor [] [] = Unit {0}
ArePlansFor (a ∷ rest) (p ∷ more) = IsPlanFor a p × ArePlansFor rest more
ArePlansFor algorithms plans = ⊥

-- the plan is chosen for the device of an algorithm by these weights, from some contents of its cells to some goal for them
pub record IsChosen (weights : Weights) (a : flm.Shown) (p : Planned) : Type 0 where
  pub device : IsPlanFor a p
  pub plan : IsSomePlan p.layout weights (is_some a.entries.erase_chip) a.device.empty p.plan

-- each plan is chosen for the device of the algorithm in its place
abbrev pub AreChosen : Weights → List flm.Shown → List Planned → Type 0
AreChosen weights [] [] = Unit {0}
AreChosen weights (a ∷ rest) (p ∷ more) = IsChosen weights a p × AreChosen weights rest more
AreChosen weights algorithms plans = ⊥

-- The text of the plans of one region or two satisfies `Printed`. The plans are chosen by the weights and the algorithms of some job, and
-- have `count` cells together.
pub record OfSomePlans (count : ℕ) (Printed : List ℕ → Type 0) : Type 0 where
  pub job : Job
  pub plans : List Planned
  pub some : 1 ≤ length plans
  pub few : length plans ≤ 2
  pub chosen : AreChosen job.board.weights (algorithms_shown job.algorithms) plans
  pub size : sum_by (λ (p : Planned). p.layout.size) plans ≡ count
  pub printed : Printed (plans_shown plans)

-- What each answer prints. Done: the plans and `done`. A fault of `out`: a beginning of the plans, or the plans and a beginning of
-- `done`. A fault of the bench: nothing, or the plans. A failed call or a mismatch: the plans. All other answers: nothing.
abbrev pub PrintsWork : ℕ → SinkCall → Answer → Type 0
PrintsWork count out done = OfSomePlans count (λ text. TookAll out (text ++ done_text))
PrintsWork count out (refused output_fault) = OfSomePlans count (λ text. TookPart out text ⊎ TookPartBehind out text done_text)
PrintsWork count out (refused store_fault) = TookNothing out ⊎ OfSomePlans count (λ text. TookAll out text)
PrintsWork count out (refused device_fault) = TookNothing out ⊎ OfSomePlans count (λ text. TookAll out text)
PrintsWork count out (refused (call_failed number call end)) = OfSomePlans count (λ text. TookAll out text)
PrintsWork count out (refused (mismatch at wanted found)) = OfSomePlans count (λ text. TookAll out text)
PrintsWork count out (refused _) = TookNothing out

-- what is printed after the plans
abbrev pub PrintsEnd : SinkCall → Answer → Type 0
PrintsEnd out answer = PrintsText out done_text answer
