-- A call completes.
use Rattle.std.proofs.Common.{◌≡◌, ◌⊎◌, ⊎_elim, inl, inr, refl, sym, ap, subst, ◌∙◌, ℕ, true, IsTrue, IsSome, List, length, Some}
use Rattle.board_file.specs.Limits.{size_of}
use Rattle.flash_session.specs.declared.goal.Goal.{Goal}
use Rattle.flash_session.specs.declared.goal.Goal.TheVariants.{New, Old}
use Rattle.report_text.specs.Refusal.{Refusal, out_of_memory, usage, input_fault, board_refused, flm_refused, other_device, no_room, image_refused}
use Rattle.report_text.specs.Refusal.{image_misplaced, store_fault, device_fault, output_fault}
use Rattle.job_text.specs.Body as written
use Rattle.command_words.specs.Files.{FilesAsked, Command, program, begin, resume, revert, plan, verify, compare, status, inspect, dump, demo}
use Rattle.command_words.specs.Words.{Asks}
use Rattle.command_files.specs.Inputs.{FilesGiven, AreFiles, Given}
use Rattle.command_files.specs.Files.{Aim, IsAim}
use Rattle.command_files.specs.Refused.{IsRefused}
use Rattle.command_files.specs.Reading.{WantAnAim, ShowsFiles}
use Rattle.command_files.specs.Call as answers
use Rattle.command_files.specs.Call.{BenchCall, SinkCall, Answer, done, refused}
use Rattle.command_files.specs.Said.{Says as SaysOn}
use Rattle.command_files.specs.Answered.{yields, IsUnless, AreCounted}
use Rattle.command_files.proofs.FilesLemmas.{holds_of, one_aim, aim_or_refused}
use Rattle.job_commands.specs.Beginning.{HasTexts, ShowsJob}
use Rattle.job_commands.specs.Printed.{PrintsWork}
use Rattle.job_commands.specs.GoOn.{GoOnAnswers}
use Rattle.job_commands.specs.Program as programs
use Rattle.job_commands.specs.Begin as begins
use Rattle.flm_cli.specs.Answers.{Answers}
use Rattle.promise.specs.Job.{Job}
use Rattle.promise.specs.Texts.{SaysJob}
use Rattle.promise.specs.Complete.{NoFault, IsRight, KeepsDuties, IsReady, IsReadyFor, IsComplete, Completes}
use Rattle.promise.proofs.StopLemmas.{its}
use Rattle.promise.proofs.CampaignLemmas.{whole_text}
use Rattle.promise.proofs.BackLemmas.{AreRight, are_right, its_aim}

-- where `done` is due, the call completes
ends : (call : answers.Call) (answer : Answer) → SaysOn call.status call.err answer → AreCounted call.bench call.inputs call.out answer
    → NoFault (its call) → IsUnless answer done → IsComplete (its call)
ends call done says counts none unless = inl says.0
ends call (refused out_of_memory) says counts none unless = inr says.0
ends call (refused (input_fault name)) says counts none unless = absurd (none.input (counts.inputs_count.only refl))
ends call (refused store_fault) says counts none unless = absurd (none.store (counts.store_count.only refl))
ends call (refused device_fault) says counts none unless = absurd (none.device (counts.device_count.only refl))
ends call (refused output_fault) says counts none unless = absurd (none.output (counts.out_count.only refl))
ends call (refused r) says counts none unless = ⊎_elim
    (λ (is : refused r ≡ done). absurd (cc))
    (λ (is : yields (refused r) ≡ true). absurd (cc))
    unless

pub its_size : (job : Job) (says : SaysJob job) (right : IsRight job says) (count : ℕ) → length job.snapshot ≡ count → size_of says.board.regions ≡ count
its_size job says right count is = sym right.is_job.cells ∙ ap (λ (l : List ℕ). length l) (sym says.snapshot_is) ∙ is

goes_on : (goal : Goal) (call : answers.Call) → IsTrue call.bench.tells → GoOnAnswers goal call
    → (job : Job) → IsReady (its call) job → KeepsDuties job → NoFault (its call) → IsComplete (its call)
goes_on goal call told it job ready keeps none =
    let says = ready.says in
    let carried = (it.ends.told told).stands says.text says.board ready.right.algorithms ready.right.is_job
    (whole_text job says call.bench.before.file ready.whole)
    (its_size job says ready.right call.bench.before.cell_count ready.sized) in
    ends call it.answer it.says it.ends.lawful.counts none (carried.1.complete (keeps says ready.right))

begun : (bench : BenchCall) (out : SinkCall) (text : List ℕ) (job : written.Job) (answer : Answer) → begins.BegunComes bench out text job answer
    → IsUnless answer done
begun bench out text job done comes = inl refl
begun bench out text job (refused out_of_memory) comes = inr refl
begun bench out text job (refused (input_fault name)) comes = inr refl
begun bench out text job (refused store_fault) comes = inr refl
begun bench out text job (refused device_fault) comes = inr refl
begun bench out text job (refused output_fault) comes = inr refl
begun bench out text job (refused r) comes = absurd comes

-- ---- files that are right

module _ (asked : FilesAsked) (call : answers.Call) (told_files : IsTrue call.inputs.tells) (files : FilesGiven) (aim : Aim)
    (are_files : AreFiles call.inputs asked files) (is_aim : IsAim asked.raw_at files aim) where
  never : (refusal : Refusal) → Given call.inputs asked (λ (others : FilesGiven). IsRefused asked others refusal) → ⊥
  never refusal given =
      aim_or_refused asked files aim refusal is_aim
      (holds_of call.inputs asked files (λ (others : FilesGiven). IsRefused asked others refusal) told_files are_files given)

  shown : (Holds : FilesGiven → Aim → Type 0) → Given call.inputs asked (WantAnAim asked Holds) → Holds files aim
  shown Holds given =
      let wants = holds_of call.inputs asked files (WantAnAim asked Holds) told_files are_files given in
      subst (λ (a : Aim). Holds files a) (one_aim asked files wants.aim aim wants.is_aim is_aim) wants.holds

  module _ (Prints : ℕ → SinkCall → Answer → Type 0) (Starts : BenchCall → SinkCall → FilesGiven → Aim → Answer → Type 0) where
    -- each answer but `out_of_memory` and a fault shows that the texts of the files were short enough to be taken
    texts : (answer : Answer) → ShowsFiles call.inputs asked (ShowsJob Prints Starts call.bench call.out answer) answer
        → IsUnless answer done ⊎ HasTexts files aim
    texts (refused out_of_memory) shows = inl (inr refl)
    texts (refused (input_fault name)) shows = inl (inr refl)
    texts (refused usage) shows = absurd (never usage shows)
    texts (refused (board_refused fault)) shows = absurd (never (board_refused fault) shows)
    texts (refused (flm_refused fault)) shows = absurd (never (flm_refused fault) shows)
    texts (refused (other_device base size)) shows = absurd (never (other_device base size) shows)
    texts (refused (no_room need have)) shows = absurd (never (no_room need have) shows)
    texts (refused (image_refused name fault)) shows = absurd (never (image_refused name fault) shows)
    texts (refused (image_misplaced fault)) shows = absurd (never (image_misplaced fault) shows)
    texts answer shows = inr (shown (ShowsJob Prints Starts call.bench call.out answer) shows).has_texts

-- ---- the commands that begin a job

module _ (asked : FilesAsked) (call : answers.Call) (told : IsTrue call.bench.tells) (told_files : IsTrue call.inputs.tells) (some : IsSome asked.flm)
    (job : Job) (ready : IsReadyFor (its call) asked job) (none : NoFault (its call)) where
  abbrev aim : Aim
  aim = its_aim call.inputs asked job some ready.files ready.right.algorithms ready.right.is_job

  right : AreRight call.inputs asked aim
  right = are_right call.inputs asked job some ready.files ready.right.algorithms ready.right.is_job

  size : size_of ready.files.says.board.regions ≡ call.bench.before.cell_count
  size = its_size job ready.files.says ready.right call.bench.before.cell_count ready.sized

  programmed : programs.ProgramAnswers asked call → KeepsDuties job → IsComplete (its call)
  programmed it keeps = ends call it.answer it.says it.ends.lawful.counts none
      (⊎_elim
      (λ (early : IsUnless it.answer done). early)
      (λ (has : HasTexts right.files aim).
      let over = it.ends.files.goes right.files aim told_files right.are_files right.is_aim told in
      (over.begins has ready.free size).carries.complete (keeps ready.files.says ready.right))
      (texts asked call told_files right.files aim right.are_files right.is_aim PrintsWork programs.Begins it.answer it.ends.files.shows))

  only_begun : begins.BeginAnswers asked call → IsComplete (its call)
  only_begun it = ends call it.answer it.says it.ends.lawful.counts none
      (⊎_elim
      (λ (early : IsUnless it.answer done). early)
      (λ (has : HasTexts right.files aim).
      let over = it.ends.files.goes right.files aim told_files right.are_files right.is_aim told in
      begun call.bench call.out _ _ it.answer (over.begins has ready.free size).begins.comes)
      (texts asked call told_files right.files aim right.are_files right.is_aim begins.PrintsBegun begins.Starts it.answer it.ends.files.shows))

pub completes : (command : Command) (words : List (List ℕ)) (call : answers.Call) → IsTrue call.bench.tells → IsTrue call.inputs.tells → Asks words command
    → Answers call (Some command) → Completes command (its call)
completes (program asked) words call told told_files asks it = λ job ready keeps none. programmed asked call told told_files asks.names.has_flm job ready none
    it keeps
completes (begin asked) words call told told_files asks it = λ job ready none. only_begun asked call told told_files asks.names.has_flm job ready none it
completes resume words call told told_files asks it = goes_on New call told it
completes revert words call told told_files asks it = goes_on Old call told it
completes (plan files) words call told told_files asks it = tt
completes (verify files) words call told told_files asks it = tt
completes (compare image) words call told told_files asks it = tt
completes status words call told told_files asks it = tt
completes (inspect flm) words call told told_files asks it = tt
completes (dump form board) words call told told_files asks it = tt
completes (demo seed) words call told told_files asks it = tt
