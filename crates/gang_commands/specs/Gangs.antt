-- What a call of a gang answers.
use Rattle.std.specs.Prelude.{◌≡◌, ◌⊎◌, ℕ, List, length}
use Rattle.bench_model.specs.declared.bench.Bench.{Ghosts}
use Rattle.gang_run.specs.Opening.{AreLookedAt}
use Rattle.report_text.specs.Refusal.{usage, out_of_memory, output_fault}
use Rattle.command_files.specs.Call.{SinkCall, refused}
use Rattle.command_files.specs.Said.{TookNothing, TookAll, TookPart, Says}
use Rattle.gang_commands.specs.Words.{DoFit}
use Rattle.gang_commands.specs.Lines.{Outcome, lines_of, status_in}
use Rattle.gang_commands.specs.Ends.{AllEndOn}

-- The call said the lines and the status of these ends, or `out` failed after it took a beginning of the lines.
abbrev pub SaysEnds : SinkCall → SinkCall → List Outcome → ℕ → Type 0
SaysEnds out err ends status = (TookAll out (lines_of ends) × (status ≡ status_in ends) × TookNothing err)
    ⊎ (TookPart out (lines_of ends) × Says status err (refused output_fault))

-- The words fit no benches: the benches are as they were.
pub record HasNoUsage {B : Type 0} (benches benches' : List B) (out err : SinkCall) (status : ℕ) : Type 0 where
  pub same : benches' ≡ benches
  pub prints : TookNothing out
  pub says : Says status err (refused usage)

-- Memory ran out: the files are as they were, and so are the cells outside the operations that were open at entry.
pub record HasNoMemory {B : Type 0} (G : Ghosts B) (benches benches' : List B) (out err : SinkCall) (status : ℕ) : Type 0 where
  pub looked : AreLookedAt G benches benches'
  pub prints : TookNothing out
  pub says : Says status err (refused out_of_memory)

-- All targets have ended, and the call said their lines and a status.
pub record HaveEnded {B : Type 0} (G : Ghosts B) (benches benches' : List B) (out err : SinkCall) (status : ℕ) : Type 0 where
  pub ends : List Outcome
  pub each : length ends ≡ length benches
  pub ended : AllEndOn G benches ends benches'
  pub says : SaysEnds out err ends status

-- what a call with this number of words answers
pub record Answers {B : Type 0} (G : Ghosts B) (words : ℕ) (benches benches' : List B) (out err : SinkCall) (status : ℕ) : Type 0 where
  pub count : length benches' ≡ length benches
  pub unfit : (DoFit words (length benches) → ⊥) → HasNoUsage benches benches' out err status
  pub fit : DoFit words (length benches) → HasNoMemory G benches benches' out err status ⊎ HaveEnded G benches benches' out err status
