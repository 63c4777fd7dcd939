-- The answer that a result stands for.
use Rattle.std.specs.Prelude.{Result, Ok, Err}
use Rattle.report_text.specs.Shown.{shown}
use Rattle.report_text.specs.declared.refusal.Refusal.{Refusal}
use Rattle.command_files.specs.Call.{Answer, done, refused}

abbrev pub answer_of : Result (Unit {0}) Refusal → Answer
answer_of (Ok _) = done
answer_of (Err e) = refused (shown e)
