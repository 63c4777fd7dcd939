-- What a command on files answers about its files: one form for every command that has a board, images, and FLM files or none.
use Rattle.std.specs.Prelude.{IsTrue}
use Rattle.report_text.specs.Refusal.{Refusal, out_of_memory, usage, input_fault, flm_refused, other_device, no_room, board_refused, image_refused}
use Rattle.report_text.specs.Refusal.{image_misplaced}
use Rattle.command_words.specs.Files.{FilesAsked}
use Rattle.command_files.specs.Inputs.{InputsCall, FilesGiven, AreFiles, Given}
use Rattle.command_files.specs.Files.{Aim, IsAim}
use Rattle.command_files.specs.Refused.{IsRefused}
use Rattle.command_files.specs.Call.{BenchCall, SinkCall, Answer, refused}
use Rattle.command_files.specs.Answered.{Refuses, DidNothing}

-- the files are right, and what holds of them and of their aim
pub record WantAnAim (asked : FilesAsked) (Holds : FilesGiven → Aim → Type 0) (files : FilesGiven) : Type 0 where
  pub aim : Aim
  pub is_aim : IsAim asked.raw_at files aim
  pub holds : Holds files aim

-- When each answer comes. A refusal of files comes only where they are refused for that reason. Every answer of the work comes only where
-- no file is refused; `Holds` says what it then shows. An input fault or "out of memory" may come first.
abbrev pub ShowsFiles : InputsCall → FilesAsked → (FilesGiven → Aim → Type 0) → Answer → Type 0
ShowsFiles inputs asked Holds (refused out_of_memory) = Unit {0}
ShowsFiles inputs asked Holds (refused (input_fault name)) = Unit {0}
ShowsFiles inputs asked Holds (refused (board_refused fault)) = Given inputs asked (λ files. IsRefused asked files (board_refused fault))
ShowsFiles inputs asked Holds (refused usage) = Given inputs asked (λ files. IsRefused asked files usage)
ShowsFiles inputs asked Holds (refused (flm_refused fault)) = Given inputs asked (λ files. IsRefused asked files (flm_refused fault))
ShowsFiles inputs asked Holds (refused (other_device base size)) = Given inputs asked (λ files. IsRefused asked files (other_device base size))
ShowsFiles inputs asked Holds (refused (no_room need have)) = Given inputs asked (λ files. IsRefused asked files (no_room need have))
ShowsFiles inputs asked Holds (refused (image_refused name fault)) = Given inputs asked (λ files. IsRefused asked files (image_refused name fault))
ShowsFiles inputs asked Holds (refused (image_misplaced fault)) = Given inputs asked (λ files. IsRefused asked files (image_misplaced fault))
ShowsFiles inputs asked Holds _ = Given inputs asked (WantAnAim asked Holds)

-- A command on files: what each answer shows, and what the command does if its files are right.
pub record AnswersFiles (bench : BenchCall) (inputs : InputsCall) (out : SinkCall) (asked : FilesAsked) (answer : Answer)
    (Holds Goes : FilesGiven → Aim → Type 0) : Type 0 where
  pub shows : ShowsFiles inputs asked Holds answer
  -- the other direction, where the inputs tell their contents: what must happen if the names have these files
  pub refuses : (files : FilesGiven) (refusal : Refusal) → IsTrue inputs.tells → AreFiles inputs asked files → IsRefused asked files refusal
      → Refuses (DidNothing bench out) answer refusal
  pub goes : (files : FilesGiven) (aim : Aim) → IsTrue inputs.tells → AreFiles inputs asked files → IsAim asked.raw_at files aim → Goes files aim
