-- The line of one of many targets.
use Rattle.std.specs.Prelude.{ℕ, List, ◌++◌, codes, Option, Some, None}
use Rattle.report_text.specs.DoneLine.{target_head, done_text}
use Rattle.report_text.specs.Refusal.{Refusal}
use Rattle.report_text.specs.Lines.{reason_of}

-- what the line of a target says: that it is done, or why it isn't
abbrev pub outcome_text : Option Refusal → List ℕ
outcome_text None = done_text
outcome_text (Some refusal) = reason_of refusal ++ codes "\n"

-- the whole line of a target
abbrev pub target_line : ℕ → Option Refusal → List ℕ
target_line index refusal = target_head index ++ outcome_text refusal
