-- What `compare IMAGE` answers.
use Rattle.std.specs.Prelude.{◌≡◌, ◌≤◌, ◌<◌, ℕ, IsTrue, List, [], ◌∷◌, length, take, Some, Bool, true, false}
use Rattle.report_text.specs.Refusal.{out_of_memory, input_fault, image_too_long, Refusal, device_fault, output_fault, differs}
use Rattle.readback.specs.Difference.{IsFirstDifference}
use Rattle.command_files.specs.Inputs.{InputsCall, IsFile}
use Rattle.command_files.specs.Call.{BenchCall, SinkCall, Answer, refused}
use Rattle.command_files.specs.Answered.{Refuses, DidNothing, EndsLawfully, on_files}
use Rattle.flm_cli.specs.Comparison.{ComparisonLeaves, Found, IsDue}

-- the bytes of the file are the cells from place 0 on
abbrev pub CellsAre : BenchCall → List ℕ → Type 0
CellsAre bench bytes = IsTrue bench.tells → take (length bytes) bench.after.cells ≡ bytes

-- the least place at which the cell isn't the byte of the file, with the byte wanted and the byte found there
abbrev pub DiffersFrom : BenchCall → List ℕ → ℕ → ℕ → ℕ → Type 0
DiffersFrom bench bytes place wanted found = IsFirstDifference bench.tells bench.after.cells 0 bytes place wanted found

-- the file has more bytes than there are cells
pub record IsTooLong (bench : BenchCall) (bytes : List ℕ) (count cells : ℕ) : Type 0 where
  pub count_is : count ≡ length bytes
  pub cells_are : cells ≡ bench.before.cell_count
  pub more : cells < count

-- there is a cell for each byte of the file, and the cells were compared with the file
pub record IsComparedWithFile (bench : BenchCall) (bytes : List ℕ) (answer : Answer) : Type 0 where
  pub fits : length bytes ≤ bench.before.cell_count
  pub found : Found (CellsAre bench bytes) (DiffersFrom bench bytes) answer

-- the bytes of the file under a name, which satisfy `Holds`; where the inputs tell, they are the file's bytes
pub record OfFile (inputs : InputsCall) (name : List ℕ) (Holds : List ℕ → Type 0) : Type 0 where
  pub bytes : List ℕ
  pub file : IsFile inputs name bytes
  pub holds : Holds bytes

-- When each answer of `compare` comes.
abbrev pub ComesOfFile : BenchCall → InputsCall → List ℕ → Answer → Type 0
ComesOfFile bench inputs image (refused out_of_memory) = Unit {0}
ComesOfFile bench inputs image (refused (input_fault name)) = Unit {0}
ComesOfFile bench inputs image (refused (image_too_long count cells)) = OfFile inputs image (λ bytes. IsTooLong bench bytes count cells)
ComesOfFile bench inputs image answer = OfFile inputs image (λ bytes. IsComparedWithFile bench bytes answer)

-- The other direction: what `compare` must answer where the file under the name has these bytes.
pub record IsDueForFile (bench : BenchCall) (out : SinkCall) (answer : Answer) (bytes : List ℕ) : Type 0 where
  pub too_long : bench.before.cell_count < length bytes
      → Refuses (DidNothing bench out) answer (image_too_long (length bytes) bench.before.cell_count)
  pub compared : length bytes ≤ bench.before.cell_count → IsDue bench (CellsAre bench bytes) (DiffersFrom bench bytes) answer

-- Which refusals `compare` has.
abbrev pub has_compare : Refusal → Bool
has_compare out_of_memory = true
has_compare (input_fault name) = true
has_compare (image_too_long bytes cells) = true
has_compare device_fault = true
has_compare output_fault = true
has_compare (differs at wanted found) = true
has_compare _ = false

-- The work of `compare`: all but the status and the line on `err`.
pub record CompareEnds (image : List ℕ) (bench : BenchCall) (inputs : InputsCall) (out : SinkCall) (answer : Answer) : Type 0 where
  pub lawful : EndsLawfully on_files bench inputs out has_compare (image ∷ []) answer
  pub leaves : ComparisonLeaves bench out answer
  pub comes : ComesOfFile bench inputs image answer
  pub due : (bytes : List ℕ) → IsTrue inputs.tells → inputs.before.stands image ≡ Some bytes → IsDueForFile bench out answer bytes
