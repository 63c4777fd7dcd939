-- What `plan [--raw-at ADDR] BOARD FLM... IMAGE...` answers, with an FLM file for each region of the board.
use Rattle.std.specs.Prelude.{◌≡◌, ◌≢◌, ℕ, IsTrue, List, [], ◌∷◌, length, take, drop, is_some, Bool, true, false}
use Rattle.bench_model.specs.State.{cells_half}
use Rattle.bench_model.specs.History.{AddsNothing}
use Rattle.bench_model.specs.Calls.{FileStays}
use Rattle.byte_map.specs.Image.{Run, over}
use Rattle.board_file.specs.declared.board.Weights.{Weights}
use Rattle.board_file.specs.declared.region.Region.{Region}
use Rattle.board_file.specs.Limits.{size_of}
use Rattle.flm_descriptor.specs.Shown as flm
use Rattle.erase_planner.specs.Plans.{Chosen, chosen}
use Rattle.report_text.specs.Plan.{plan_text}
use Rattle.report_text.specs.Region.{plans_text}
use Rattle.report_text.specs.Refusal.{device_fault, cells_differ, Refusal, out_of_memory, usage, input_fault, board_refused, flm_refused, other_device}
use Rattle.report_text.specs.Refusal.{no_room, image_refused, image_misplaced, output_fault}
use Rattle.algo_calls.specs.Duties.{device_of}
use Rattle.command_words.specs.Files.{FilesAsked, names_in}
use Rattle.command_files.specs.Inputs.{InputsCall}
use Rattle.command_files.specs.Files.{Aim}
use Rattle.command_files.specs.Call.{BenchCall, SinkCall, Answer, done, refused}
use Rattle.command_files.specs.Said.{PrintsText}
use Rattle.command_files.specs.Answered.{IsUnless, Refuses, DidNothing, EndsLawfully, on_files}
use Rattle.device_dump.specs.Looks.{PrintsNothing}
use Rattle.flm_cli.specs.Comparison.{Stands, HasOtherSize}
use Rattle.command_files.specs.Reading.{AnswersFiles}

-- The plan for the cells of a region.

-- the plan that is chosen for cells from address `base` on: from the cells as they are to the image laid over them
abbrev pub plan_for : Weights → flm.Shown → List Run → ℕ → List ℕ → Chosen
plan_for weights algorithm image base cells =
    chosen (device_of algorithm) weights (is_some algorithm.entries.erase_chip) algorithm.device.empty cells (over image base cells)

-- the text of the plan that is chosen for cells from address `base` on
abbrev pub text_for : Weights → flm.Shown → List Run → ℕ → List ℕ → List ℕ
text_for weights algorithm image base cells = plan_text (device_of algorithm) base (plan_for weights algorithm image base cells)

-- The plans of regions, each for its own cells: the first address of each region, and the text of its plan. The cells of one region
-- follow those of the one before it.
abbrev pub plans_for : Weights → List Run → List Region → List flm.Shown → List ℕ → List (ℕ × List ℕ)
plans_for weights image [] algorithms cells = []
plans_for weights image (region ∷ regions) [] cells = []
plans_for weights image (region ∷ regions) (algorithm ∷ algorithms) cells =
    (region.base, text_for weights algorithm image region.base (take region.size cells))
    ∷ plans_for weights image regions algorithms (drop region.size cells)

-- the text of the plans for what the files want
abbrev pub text_of : Aim → List ℕ → List ℕ
text_of aim cells = plans_text (plans_for aim.board.weights aim.image aim.board.regions aim.algorithms cells)

-- What `plan` leaves with an answer.
pub record PlanLeaves (bench : BenchCall) (out : SinkCall) (answer : Answer) : Type 0 where
  pub prints : PrintsNothing out answer
  pub stands : Stands bench answer
  -- the job file is as it was, and a stop at any moment leaves only cells that a stop at entry may leave
  pub file : FileStays bench.before bench.after
  pub count : bench.after.cell_count ≡ bench.before.cell_count
  pub stops : AddsNothing (cells_half bench.before) (cells_half bench.after)

-- When each answer of `plan` comes, for files that are right.

-- the text of the plans went to `out`: there is an algorithm for each region, and as many cells as the regions have; where the bench
-- tells its cells, the plans are made from them
pub record IsPlanned (bench : BenchCall) (out : SinkCall) (aim : Aim) (answer : Answer) : Type 0 where
  pub size : size_of aim.board.regions ≡ bench.before.cell_count
  pub each : length aim.algorithms ≡ length aim.board.regions
  pub cells : List ℕ
  pub all : length cells ≡ size_of aim.board.regions
  pub surveyed : IsTrue bench.tells → bench.after.cells ≡ cells
  pub prints : PrintsText out (text_of aim cells) answer

abbrev pub ShowsPlan : BenchCall → SinkCall → Answer → Aim → Type 0
ShowsPlan bench out (refused (cells_differ wanted found)) aim = HasOtherSize bench aim wanted found
ShowsPlan bench out (refused device_fault) aim = size_of aim.board.regions ≡ bench.before.cell_count
ShowsPlan bench out answer aim = IsPlanned bench out aim answer

-- The other direction: what `plan` must answer, for files that are right.
pub record IsDueForPlan (bench : BenchCall) (out : SinkCall) (answer : Answer) (aim : Aim) : Type 0 where
  pub other_size : size_of aim.board.regions ≢ bench.before.cell_count
      → Refuses (DidNothing bench out) answer (cells_differ (size_of aim.board.regions) bench.before.cell_count)
  pub complete : size_of aim.board.regions ≡ bench.before.cell_count → IsUnless answer done
  pub planned : IsTrue bench.tells → size_of aim.board.regions ≡ bench.before.cell_count → PrintsText out (text_of aim bench.after.cells) answer

-- Which refusals `plan` has.
abbrev pub has_plan : Refusal → Bool
has_plan out_of_memory = true
has_plan usage = true
has_plan (input_fault name) = true
has_plan (board_refused fault) = true
has_plan (flm_refused fault) = true
has_plan (other_device base size) = true
has_plan (no_room need have) = true
has_plan (image_refused name fault) = true
has_plan (image_misplaced fault) = true
has_plan (cells_differ wanted found) = true
has_plan device_fault = true
has_plan output_fault = true
has_plan _ = false

-- The work of `plan`: all but the status and the line on `err`.
pub record PlanEnds (asked : FilesAsked) (bench : BenchCall) (inputs : InputsCall) (out : SinkCall) (answer : Answer) : Type 0 where
  pub lawful : EndsLawfully on_files bench inputs out has_plan (names_in asked) answer
  pub leaves : PlanLeaves bench out answer
  pub files : AnswersFiles bench inputs out asked answer (λ files. ShowsPlan bench out answer) (λ files. IsDueForPlan bench out answer)
