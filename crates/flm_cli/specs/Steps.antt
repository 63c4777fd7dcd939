-- What the steps of the commands answer.
use Rattle.std.specs.Prelude.{◌≡◌, ◌≢◌, ◌<◌, ◌+◌, ℕ, Bool, true, false, IsTrue, List, [], ◌∷◌, ◌++◌, map, length, slice_index, Option, Some, None, Result, Ok}
use Rattle.std.specs.Prelude.{Err}
use Rattle.bench_model.specs.declared.bench_fault.DeviceFault.{DeviceFault}
use Rattle.byte_map.specs.Image.{Run, byte_at}
use Rattle.board_file.specs.declared.region.Region.{Region}
use Rattle.readback.specs.declared.compare.Difference.{Difference}
use Rattle.flm_descriptor.specs.Shown as flm
use Rattle.board_file.specs.declared.board.Weights.{Weights}
use Rattle.flash_session.specs.declared.region_plan.RegionPlan.{RegionPlan}
use Rattle.flash_session.specs.RegionPlans.{IsRegionPlanFor, IsPlannedOver}
use Rattle.report_text.specs.Plan.{plan_text}
use Rattle.report_text.specs.Region.{region_text, plans_text}
use Rattle.report_text.specs.Refusal.{out_of_memory, device_fault, output_fault, differs}
use Rattle.report_text.specs.End.{end_text}
use Rattle.report_text.specs.declared.end.End.TheVariants.{Same}
use Rattle.command_files.specs.Call.{BenchCall, SinkCall, Answer, done, refused}
use Rattle.command_files.specs.Said.{TookNothing, PrintsText, SaysText}
use Rattle.command_files.specs.Answered.{device, output, IsCounted}
use Rattle.flm_cli.specs.Plan.{PlanLeaves}
use Rattle.job_text.specs.Laid.{address_at}
use Rattle.flm_cli.specs.Verify.{CellsAgree, IsLeastDifference}

-- None where each cell is the image's byte wherever the image has one; else the difference at the least place, by its address.
abbrev pub FindsInImage : Bool → List ℕ → List Region → List Run → Option Difference → Type 0
FindsInImage tells cells regions image None = IsTrue tells → CellsAgree cells regions image
FindsInImage tells cells regions image (Some d) =
    (place : ℕ) × (address_at regions place ≡ Some d.at) × IsLeastDifference tells cells regions image place d.want d.got

-- In one region, the cells at offsets below `limit` are the image's bytes wherever the image has some. The region's first cell has the
-- place `start` and the address `base`.
abbrev pub RegionAgreesBelow : List ℕ → ℕ → ℕ → List Run → ℕ → Type 0
RegionAgreesBelow cells start base image limit =
    (offset byte : ℕ) → offset < limit → byte_at image (base + offset) ≡ Some byte → slice_index cells (start + offset) ≡ byte

-- the first cell of a region that isn't the image's byte, by its address
pub record IsFirstInRegion (tells : Bool) (cells : List ℕ) (start base size : ℕ) (image : List Run) (at wanted found : ℕ) : Type 0 where
  pub offset : ℕ
  pub inside : offset < size
  pub address : at ≡ base + offset
  pub is_wanted : byte_at image (base + offset) ≡ Some wanted
  pub unequal : wanted ≢ found
  pub is_found : IsTrue tells → slice_index cells (start + offset) ≡ found
  pub least : IsTrue tells → RegionAgreesBelow cells start base image offset

abbrev pub FindsInRegion : Bool → List ℕ → ℕ → ℕ → ℕ → List Run → Option Difference → Type 0
FindsInRegion tells cells start base size image None = IsTrue tells → RegionAgreesBelow cells start base image size
FindsInRegion tells cells start base size image (Some d) = IsFirstInRegion tells cells start base size image d.at d.want d.got

-- none where the cells agree; else a difference, by its address, which is `base` more than its place
abbrev pub FoundBy : ℕ → Type 0 → (ℕ → ℕ → ℕ → Type 0) → Option Difference → Type 0
FoundBy base Agrees Differs None = Agrees
FoundBy base Agrees Differs (Some d) = Differs (base + d.at) d.want d.got

-- How a comparison ends, by what was found.

-- the answer is the one that is due, and nothing is printed
pub record SaysNothing (out : SinkCall) (due answer : Answer) : Type 0 where
  pub answer_is : answer ≡ due
  pub prints : TookNothing out

-- `same` is printed where nothing differs; a difference or a fault is refused, and nothing is printed
abbrev pub TellsFound : ℕ → Result (Option Difference) DeviceFault → SinkCall → Answer → Type 0
TellsFound base (Err fault) out answer = SaysNothing out (refused device_fault) answer
TellsFound base (Ok None) out answer = SaysText out (end_text Same) answer
TellsFound base (Ok (Some d)) out answer = SaysNothing out (refused (differs (base + d.at) d.want d.got)) answer

-- The steps of `plan`.

-- there is an algorithm for each region, and its device is the region
abbrev pub AreDevices : List Region → List flm.Shown → Type 0
AreDevices [] [] = Unit {0}
AreDevices (region ∷ regions) (algorithm ∷ algorithms) =
    (algorithm.device.base ≡ region.base) × (algorithm.device.size ≡ region.size) × AreDevices regions algorithms
AreDevices regions algorithms = ⊥

-- how many cells the devices of the algorithms have together
abbrev pub cells_on : List flm.Shown → ℕ
cells_on [] = 0
cells_on (algorithm ∷ algorithms) = algorithm.device.size + cells_on algorithms

-- there is memory for a plan by each algorithm; the cells of one follow those of the one before it, and the first cell has the place
-- `start`
abbrev pub AreParts : List flm.Shown → ℕ → List RegionPlan → Type 0
AreParts [] start [] = Unit {0}
AreParts (algorithm ∷ algorithms) start (part ∷ parts) = IsRegionPlanFor algorithm part ×
    (part.start ≡ start) × AreParts algorithms (start + algorithm.device.size) parts
AreParts algorithms start parts = ⊥

-- each part has its plan, made from its own cells among `all` to an image laid over them
abbrev pub ArePlanned : Bool → Weights → List Run → List ℕ → List flm.Shown → List RegionPlan → Type 0
ArePlanned tells weights image all [] [] = Unit {0}
ArePlanned tells weights image all (algorithm ∷ algorithms) (part ∷ parts) =
    IsPlannedOver tells weights image all algorithm part × ArePlanned tells weights image all algorithms parts
ArePlanned tells weights image all algorithms parts = ⊥

-- the text of a region's plan; if the flag is true, the line of the region comes first
abbrev pub part_text : Bool → RegionPlan → List ℕ
part_text false part = plan_text part.geometry part.base part.plan.made
part_text true part = region_text part.base ++ plan_text part.geometry part.base part.plan.made

-- the text of the plans of all regions
abbrev pub parts_text : List RegionPlan → List ℕ
parts_text parts = plans_text (map (λ part. (part.base, plan_text part.geometry part.base part.plan.made)) parts)

-- the text for the cells that were read went to `out`
pub record IsPrinted (bench : BenchCall) (out : SinkCall) (text : List ℕ → List ℕ) (answer : Answer) : Type 0 where
  pub cells : List ℕ
  pub all : length cells ≡ bench.before.cell_count
  pub surveyed : IsTrue bench.tells → bench.after.cells ≡ cells
  pub prints : PrintsText out (text cells) answer

-- memory ran out, the device failed, or the text went to `out`
abbrev pub Printed : BenchCall → SinkCall → (List ℕ → List ℕ) → Answer → Type 0
Printed bench out text (refused out_of_memory) = Unit {0}
Printed bench out text (refused device_fault) = Unit {0}
Printed bench out text (refused output_fault) = IsPrinted bench out text (refused output_fault)
Printed bench out text done = IsPrinted bench out text done
Printed bench out text (refused _) = ⊥

pub record PlansCells (bench : BenchCall) (out : SinkCall) (text : List ℕ → List ℕ) (answer : Answer) : Type 0 where
  pub leaves : PlanLeaves bench out answer
  pub printed : Printed bench out text answer
  pub device_count : IsCounted bench.before.device_faults bench.after.device_faults device answer
  pub out_count : IsCounted out.before.faults out.after.faults output answer
