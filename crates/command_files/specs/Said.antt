-- What a call prints: on `out`, and on `err` if it is refused.
use Rattle.std.specs.Prelude.{◌≡◌, ◌≤◌, ◌++◌, ◌⊎◌, ℕ, IsTrue, List}
use Rattle.faults.specs.Counts.{Rose}
use Rattle.outside_io.specs.Appends.{AppendsPart}
use Rattle.report_text.specs.Refusal.{status_of, output_fault}
use Rattle.report_text.specs.Lines.{line_of}
use Rattle.command_files.specs.Call.{SinkCall, Answer, done, refused}

-- ---- what a sink took

-- the sink took nothing, and counted no fault
pub record TookNothing (sink : SinkCall) : Type 0 where
  pub taken : sink.after.taken ≡ sink.before.taken
  pub faults : sink.after.faults ≡ sink.before.faults

-- the sink took the whole text, and counted no fault
pub record TookAll (sink : SinkCall) (text : List ℕ) : Type 0 where
  pub taken : IsTrue sink.tells → sink.after.taken ≡ sink.before.taken ++ text
  pub faults : sink.after.faults ≡ sink.before.faults

-- the sink took the first part of the text, and counted a fault
pub record TookPart (sink : SinkCall) (text : List ℕ) : Type 0 where
  pub taken : IsTrue sink.tells → AppendsPart text sink.before.taken sink.after.taken
  pub later : sink.before.faults ≤ sink.after.faults
  pub rose : Rose sink.before.faults sink.after.faults

-- the sink took the whole of one text and the first part of another, and counted a fault
pub record TookPartBehind (sink : SinkCall) (whole text : List ℕ) : Type 0 where
  pub taken : IsTrue sink.tells → AppendsPart text (sink.before.taken ++ whole) sink.after.taken
  pub later : sink.before.faults ≤ sink.after.faults
  pub rose : Rose sink.before.faults sink.after.faults

-- Status 0 prints nothing on `err`. A refusal has its own status, and its line goes to `err`. Only a first part of the line does if `err`
-- counted a fault.
abbrev pub Says : ℕ → SinkCall → Answer → Type 0
Says status err done = (status ≡ 0) × TookNothing err
Says status err (refused refusal) = (status ≡ status_of refusal) × (TookAll err (line_of refusal) ⊎ TookPart err (line_of refusal))

-- ---- what an answer prints

-- "done" prints a text, a fault of `out` prints its first part, and every other answer prints nothing
abbrev pub PrintsText : SinkCall → List ℕ → Answer → Type 0
PrintsText out text done = TookAll out text
PrintsText out text (refused output_fault) = TookPart out text
PrintsText out text (refused _) = TookNothing out

-- the output took a text, or a part of it where it failed; there is no other answer
abbrev pub SaysText : SinkCall → List ℕ → Answer → Type 0
SaysText out text done = TookAll out text
SaysText out text (refused output_fault) = TookPart out text
SaysText out text (refused _) = ⊥
