-- What a call of the program answers: when each ending comes, its status, and what it prints.
use Rattle.std.specs.Prelude.{◌≡◌, ◌++◌, ◌⊎◌, ℕ, List, [], ◌∷◌, slice_get, Some, Result, Ok, Err, codes}
use Rattle.board_file.specs.Shown as board
use Rattle.flm_descriptor.specs.Shown as flm
use Rattle.algo_calls.specs.Duties.{Serves, AllServe}
use Rattle.serve_law.specs.Table.{IsA1On}
use Rattle.report_text.specs.Refusal as refusal
use Rattle.report_text.specs.Lines.{line_of}
use Rattle.report_text.specs.Shown.{shown}
use Rattle.report_text.specs.declared.refusal.Refusal.{Refusal}
use Rattle.command_words.specs.Files.{names_in}
use Rattle.command_files.specs.Inputs.{InputsCall, FilesGiven, NoneFailed}
use Rattle.command_files.specs.Steps.{IsTakeFault, TookFiles}
use Rattle.command_files.specs.Call.{SinkCall}
use Rattle.command_files.specs.Said.{TookNothing, TookAll, TookPart}
use Rattle.flm_check.specs.Words.{Asked, Asks, AsksNothing}
use Rattle.flm_check.specs.BoardAlgorithms.{AreBoardAlgorithms, IsRefused}
use Rattle.flm_check.specs.Endings.{status_of, first_line}
use Rattle.flm_check.specs.declared.ending.Ending.{Ending}
use Rattle.flm_check.specs.declared.ending.Ending.TheVariants as ending

-- ---- what an ending says of algorithms

-- one of the algorithms doesn't keep its duties
pub record OneBreaks (b : board.Shown) (algorithms : List flm.Shown) : Type 0 where
  pub region : ℕ
  pub algorithm : flm.Shown
  pub is : slice_get algorithms region ≡ Some algorithm
  pub refuted : Serves b algorithm region → ⊥

-- what an ending claims: each algorithm keeps its duties, by a theorem; or nothing; or one doesn't keep them
abbrev pub Claims : board.Shown → List flm.Shown → Ending → Type 0
Claims b algorithms ending.Proved = AllServe b algorithms
Claims b algorithms (ending.Tried lists calls) = Unit {0}
Claims b algorithms (ending.Broken duty) = OneBreaks b algorithms

-- An ending claims this of the algorithms in some files. A1 on a board that it serves is reported as proved.
pub record ClaimsOf (files : FilesGiven) (end : Ending) : Type 0 where
  pub board : board.Shown
  pub algorithms : List flm.Shown
  pub are_algorithms : AreBoardAlgorithms files board algorithms
  pub claims : Claims board algorithms end
  pub proved : (a : flm.Shown) → algorithms ≡ a ∷ [] → IsA1On board a → end ≡ ending.Proved

-- The output failed. It took a beginning of the text that was due. That text begins with the first line of an ending that holds of the
-- files.
pub record IsCutShort (files : FilesGiven) (out : SinkCall) : Type 0 where
  pub end : Ending
  pub claims : ClaimsOf files end
  pub rest : List ℕ
  pub took : TookPart out (first_line end ++ rest)

-- ---- when each answer comes

-- the words ask for a check of some files, all of these were taken, and `Holds` is true of them
pub record OfFiles (words : List (List ℕ)) (inputs : InputsCall) (Holds : FilesGiven → Type 0) : Type 0 where
  pub asked : Asked
  pub asks : Asks words asked
  pub took : TookFiles inputs asked.files Holds

-- the words ask for a check of some files, and this one of them couldn't be taken
pub record OfUntaken (words : List (List ℕ)) (inputs : InputsCall) (name : List ℕ) : Type 0 where
  pub asked : Asked
  pub asks : Asks words asked
  pub fault : IsTakeFault inputs (names_in asked.files) (refusal.input_fault name)

abbrev pub ComesRefused : List (List ℕ) → InputsCall → SinkCall → refusal.Refusal → Type 0
ComesRefused words inputs out refusal.out_of_memory = NoneFailed inputs
ComesRefused words inputs out refusal.output_fault = OfFiles words inputs (λ files. IsCutShort files out)
ComesRefused words inputs out (refusal.input_fault name) = OfUntaken words inputs name
ComesRefused words inputs out refusal.usage = (AsksNothing words × NoneFailed inputs) ⊎ OfFiles words inputs (λ files. IsRefused files refusal.usage)
ComesRefused words inputs out r = OfFiles words inputs (λ files. IsRefused files r)

abbrev pub Comes : List (List ℕ) → InputsCall → SinkCall → Result Ending Refusal → Type 0
Comes words inputs out (Ok end) = OfFiles words inputs (λ files. ClaimsOf files end)
Comes words inputs out (Err e) = ComesRefused words inputs out (shown e)

-- ---- status and text

-- `out` took a text that begins with this line
pub record TookBehind (out : SinkCall) (line : List ℕ) : Type 0 where
  pub rest : List ℕ
  pub took : TookAll out (line ++ rest)

-- `out` took a beginning of a text, and its count of faults rose
pub record TookSome (out : SinkCall) : Type 0 where
  pub text : List ℕ
  pub took : TookPart out text

-- the line of a refusal on standard error
abbrev pub refused_line : refusal.Refusal → List ℕ
refused_line refusal.usage = codes "flmprog: usage: flm_check BOARD FLM [FLM] [--seed N] [--rounds N]\n"
refused_line r = line_of r

-- what a refusal leaves on `out`
abbrev pub PutsRefused : SinkCall → refusal.Refusal → Type 0
PutsRefused out refusal.output_fault = TookSome out
PutsRefused out r = TookNothing out

-- An ending has its status and leaves `err` empty. A refusal has its status, and its line goes to `err`, or a beginning of it where
-- the count of `err` rose.
abbrev pub Says : ℕ → SinkCall → Result Ending Refusal → Type 0
Says status err (Ok end) = (status ≡ status_of end) × TookNothing err
Says status err (Err e) = (status ≡ refusal.status_of (shown e)) × (TookAll err (refused_line (shown e)) ⊎ TookPart err (refused_line (shown e)))

-- ---- a call

-- what a result leaves on `out`
abbrev pub Leaves : SinkCall → Result Ending Refusal → Type 0
Leaves out (Ok end) = TookBehind out (first_line end)
Leaves out (Err e) = PutsRefused out (shown e)

-- what a call does, except for the status and the line on `err`
pub record Works (words : List (List ℕ)) (inputs : InputsCall) (out : SinkCall) (result : Result Ending Refusal) : Type 0 where
  pub comes : Comes words inputs out result
  pub leaves : Leaves out result

pub record Answers (words : List (List ℕ)) (status : ℕ) (inputs : InputsCall) (out err : SinkCall) : Type 0 where
  pub result : Result Ending Refusal
  pub works : Works words inputs out result
  pub says : Says status err result
