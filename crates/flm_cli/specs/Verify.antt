-- What `verify [--raw-at ADDR] BOARD IMAGE...` answers.
use Rattle.std.specs.Prelude.{◌≡◌, ◌≢◌, ◌<◌, ◌+◌, ◌-◌, ℕ, nat_lt, IsTrue, Bool, if◌then◌else◌, List, [], ◌∷◌, slice_index, Option, Some, None, true, false}
use Rattle.board_file.specs.declared.region.Region.{Region}
use Rattle.board_file.specs.Limits.{size_of}
use Rattle.byte_map.specs.Image.{Run, byte_at}
use Rattle.report_text.specs.Refusal.{cells_differ, Refusal, out_of_memory, input_fault, board_refused, image_refused, image_misplaced, device_fault}
use Rattle.report_text.specs.Refusal.{output_fault, differs}
use Rattle.command_words.specs.Files.{FilesAsked, names_in}
use Rattle.command_files.specs.Inputs.{InputsCall}
use Rattle.command_files.specs.Files.{Aim}
use Rattle.command_files.specs.Call.{BenchCall, SinkCall, Answer, refused}
use Rattle.job_text.specs.Laid.{address_at}
use Rattle.command_files.specs.Answered.{Refuses, DidNothing, EndsLawfully, on_files}
use Rattle.flm_cli.specs.Comparison.{ComparisonLeaves, Found, IsDue, HasOtherSize}
use Rattle.command_files.specs.Reading.{AnswersFiles}

-- The cells of regions, compared with an image.

-- the byte that an image wants at a place among the regions' cells, if it has one there
abbrev pub wanted_at : List Region → List Run → ℕ → Option ℕ
wanted_at [] image place = None
wanted_at (region ∷ regions) image place =
    if nat_lt place region.size then byte_at image (region.base + place) else wanted_at regions image (place - region.size)

-- below the place `limit`, each cell is the image's byte wherever the image has one
abbrev pub CellsAgreeBelow : List ℕ → List Region → List Run → ℕ → Type 0
CellsAgreeBelow cells regions image limit =
    (place byte : ℕ) → place < limit → wanted_at regions image place ≡ Some byte → slice_index cells place ≡ byte

-- at every place, the cell is the image's byte wherever the image has one
abbrev pub CellsAgree : List ℕ → List Region → List Run → Type 0
CellsAgree cells regions image = (place byte : ℕ) → wanted_at regions image place ≡ Some byte → slice_index cells place ≡ byte

-- the least place at which the cell isn't the image's byte, with the byte wanted and the byte found there
pub record IsLeastDifference (tells : Bool) (cells : List ℕ) (regions : List Region) (image : List Run) (place wanted found : ℕ) : Type 0 where
  pub is_wanted : wanted_at regions image place ≡ Some wanted
  pub unequal : wanted ≢ found
  pub is_found : IsTrue tells → slice_index cells place ≡ found
  pub least : IsTrue tells → CellsAgreeBelow cells regions image place

-- the least difference between cells and image, by the address of its cell
pub record DiffersAt (bench : BenchCall) (regions : List Region) (image : List Run) (at wanted found : ℕ) : Type 0 where
  pub place : ℕ
  pub address : address_at regions place ≡ Some at
  pub first : IsLeastDifference bench.tells bench.after.cells regions image place wanted found

abbrev pub AgreesWith : BenchCall → List Region → List Run → Type 0
AgreesWith bench regions image = IsTrue bench.tells → CellsAgree bench.after.cells regions image

-- What `verify` answers for files that are right: `cells_differ` where the regions have another number of cells than the bench; else what
-- the comparison found.

pub record IsComparedWithImage (bench : BenchCall) (aim : Aim) (answer : Answer) : Type 0 where
  pub size : size_of aim.board.regions ≡ bench.before.cell_count
  pub found : Found (AgreesWith bench aim.board.regions aim.image) (DiffersAt bench aim.board.regions aim.image) answer

abbrev pub Shows : BenchCall → Answer → Aim → Type 0
Shows bench (refused (cells_differ wanted found)) aim = HasOtherSize bench aim wanted found
Shows bench answer aim = IsComparedWithImage bench aim answer

-- The other direction: what `verify` must answer, for files that are right.
pub record IsDueForImage (bench : BenchCall) (out : SinkCall) (answer : Answer) (aim : Aim) : Type 0 where
  pub other_size : size_of aim.board.regions ≢ bench.before.cell_count
      → Refuses (DidNothing bench out) answer (cells_differ (size_of aim.board.regions) bench.before.cell_count)
  pub compared : size_of aim.board.regions ≡ bench.before.cell_count
      → IsDue bench (AgreesWith bench aim.board.regions aim.image) (DiffersAt bench aim.board.regions aim.image) answer

-- Which refusals `verify` has.
abbrev pub has_verify : Refusal → Bool
has_verify out_of_memory = true
has_verify (input_fault name) = true
has_verify (board_refused fault) = true
has_verify (image_refused name fault) = true
has_verify (image_misplaced fault) = true
has_verify (cells_differ wanted found) = true
has_verify device_fault = true
has_verify output_fault = true
has_verify (differs at wanted found) = true
has_verify _ = false

-- The work of `verify`: all but the status and the line on `err`.
pub record VerifyEnds (asked : FilesAsked) (bench : BenchCall) (inputs : InputsCall) (out : SinkCall) (answer : Answer) : Type 0 where
  pub lawful : EndsLawfully on_files bench inputs out has_verify (names_in asked) answer
  pub leaves : ComparisonLeaves bench out answer
  pub files : AnswersFiles bench inputs out asked answer (λ files. Shows bench answer) (λ files. IsDueForImage bench out answer)
