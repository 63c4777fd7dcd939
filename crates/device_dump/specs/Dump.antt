-- What `dump FORM BOARD` answers.
use Rattle.std.specs.Prelude.{◌≡◌, ◌≢◌, ◌<◌, ◌⊎◌, ℕ, IsTrue, List, [], ◌∷◌, length, Some, Err, Bool, true, false}
use Rattle.std.specs.List.{All}
use Rattle.bench_model.specs.State.{cells_half}
use Rattle.bench_model.specs.History.{AddsNothing}
use Rattle.bench_model.specs.Calls.{FileStays, CellsStay}
use Rattle.board_file.specs.declared.fault.BoardFault.{BoardFault}
use Rattle.board_file.specs.declared.region.Region.{Region}
use Rattle.board_file.specs.Limits.{size_of}
use Rattle.board_file.specs.Shown as board
use Rattle.board_file.specs.Text.{reading, IsBoard}
use Rattle.byte_map.specs.Image.{Run}
use Rattle.image_more.specs.Texts.{hex_text, srec_text}
use Rattle.report_text.specs.Refusal.{out_of_memory, input_fault, board_refused, cells_differ, device_fault, output_fault, Refusal}
use Rattle.command_words.specs.declared.command.TextForm.{TextForm}
use Rattle.command_words.specs.declared.command.TextForm.TheVariants.{Hex, Srec}
use Rattle.command_files.specs.Inputs.{InputsCall, IsFile}
use Rattle.command_files.specs.Call.{BenchCall, SinkCall, Answer, done, refused}
use Rattle.command_files.specs.Said.{PrintsText}
use Rattle.command_files.specs.Answered.{IsUnless, Refuses, DidNothing, EndsLawfully, on_files}
use Rattle.device_dump.specs.CellMaps.{IsMapOfCells}
use Rattle.device_dump.specs.Looks.{IsBrokenOff, IsStillOpen, PrintsNothing}

-- a map as a text of this form
abbrev pub text_in : TextForm → List Run → List ℕ
text_in Hex map = hex_text map
text_in Srec map = srec_text map

-- How far the cells were read. Out of memory may come before they are looked at, or after they were read.
abbrev pub StandsBehind : BenchCall → Answer → Type 0
StandsBehind bench done = IsBrokenOff bench
StandsBehind bench (refused output_fault) = IsBrokenOff bench
StandsBehind bench (refused device_fault) = IsBrokenOff bench ⊎ IsStillOpen bench
StandsBehind bench (refused out_of_memory) = CellsStay bench.before bench.after ⊎ IsBrokenOff bench
StandsBehind bench (refused _) = CellsStay bench.before bench.after

-- What the command leaves with each answer.
pub record DumpLeaves (bench : BenchCall) (out : SinkCall) (answer : Answer) : Type 0 where
  pub prints : PrintsNothing out answer
  pub stands : StandsBehind bench answer
  -- the job file is as it was, and a stop at any moment leaves no cells that a stop at the start might not have left
  pub file : FileStays bench.before bench.after
  pub count : bench.after.cell_count ≡ bench.before.cell_count
  pub stops : AddsNothing (cells_half bench.before) (cells_half bench.after)

-- When each answer comes.

-- The bytes under the name are the text of a board, and that board is as `Holds` says.
pub record OnBoard (inputs : InputsCall) (name : List ℕ) (Holds : board.Shown → Type 0) : Type 0 where
  pub text : List ℕ
  pub file : IsFile inputs name text
  pub board : board.Shown
  pub is_board : IsBoard text board
  pub holds : Holds board

-- The bytes under the name aren't the text of a board, for this reason.
pub record IsNoBoard (inputs : InputsCall) (name : List ℕ) (fault : BoardFault) : Type 0 where
  pub text : List ℕ
  pub file : IsFile inputs name text
  pub refuses : reading text ≡ Err fault

-- the bench has another number of cells than the board
pub record HasOtherCount (bench : BenchCall) (regions : List Region) (wanted found : ℕ) : Type 0 where
  pub wanted_is : wanted ≡ size_of regions
  pub found_is : found ≡ bench.before.cell_count
  pub unequal : wanted ≢ found

-- The text of the map of cells went to `out`. There are as many cells as the regions have. Where the bench tells its cells, they are these.
pub record IsDumped (form : TextForm) (regions : List Region) (bench : BenchCall) (out : SinkCall) (answer : Answer) : Type 0 where
  pub cells : List ℕ
  pub bytes : All (λ byte. byte < 256) cells
  pub all : length cells ≡ size_of regions
  pub surveyed : IsTrue bench.tells → bench.after.cells ≡ cells
  pub map : List Run
  pub is_map : IsMapOfCells regions cells map
  pub prints : PrintsText out (text_in form map) answer

-- the bench has as many cells as the regions, and this holds
pub record WithCells (regions : List Region) (bench : BenchCall) (Holds : Type 0) : Type 0 where
  pub count : size_of regions ≡ bench.before.cell_count
  pub holds : Holds

abbrev pub ShowsDump : TextForm → BenchCall → SinkCall → Answer → board.Shown → Type 0
ShowsDump form bench out done board = WithCells board.regions bench (IsDumped form board.regions bench out done)
ShowsDump form bench out (refused output_fault) board = WithCells board.regions bench (IsDumped form board.regions bench out (refused output_fault))
ShowsDump form bench out (refused device_fault) board = WithCells board.regions bench (Unit {0})
ShowsDump form bench out (refused (cells_differ wanted found)) board = HasOtherCount bench board.regions wanted found
ShowsDump form bench out (refused _) board = ⊥

abbrev pub ComesOfBoard : TextForm → BenchCall → InputsCall → SinkCall → List ℕ → Answer → Type 0
ComesOfBoard form bench inputs out name (refused out_of_memory) = Unit {0}
ComesOfBoard form bench inputs out name (refused (input_fault other)) = Unit {0}
ComesOfBoard form bench inputs out name (refused (board_refused fault)) = IsNoBoard inputs name fault
ComesOfBoard form bench inputs out name answer = OnBoard inputs name (ShowsDump form bench out answer)

-- The other direction: with this text under the name, each answer comes where it is due.
pub record IsDueForBoard (form : TextForm) (bench : BenchCall) (out : SinkCall) (answer : Answer) (text : List ℕ) : Type 0 where
  pub refuses : (fault : BoardFault) → reading text ≡ Err fault → Refuses (DidNothing bench out) answer (board_refused fault)
  pub other_count : (board : board.Shown) → IsBoard text board → size_of board.regions ≢ bench.before.cell_count
      → Refuses (DidNothing bench out) answer (cells_differ (size_of board.regions) bench.before.cell_count)
  pub complete : (board : board.Shown) → IsBoard text board → size_of board.regions ≡ bench.before.cell_count → IsUnless answer done
  pub dumped : (board : board.Shown) (map : List Run) → IsBoard text board → size_of board.regions ≡ bench.before.cell_count → IsTrue bench.tells
      → IsMapOfCells board.regions bench.after.cells map → PrintsText out (text_in form map) answer

-- Which refusals `dump` can answer.
abbrev pub has_dump : Refusal → Bool
has_dump out_of_memory = true
has_dump (input_fault name) = true
has_dump (board_refused fault) = true
has_dump (cells_differ wanted found) = true
has_dump device_fault = true
has_dump output_fault = true
has_dump _ = false

-- What `dump` does, except for the status and the line on `err`.
pub record DumpEnds (form : TextForm) (name : List ℕ) (bench : BenchCall) (inputs : InputsCall) (out : SinkCall) (answer : Answer) : Type 0 where
  pub lawful : EndsLawfully on_files bench inputs out has_dump (name ∷ []) answer
  pub leaves : DumpLeaves bench out answer
  pub comes : ComesOfBoard form bench inputs out name answer
  pub due : (text : List ℕ) → IsTrue inputs.tells → inputs.before.stands name ≡ Some text → IsDueForBoard form bench out answer text
