-- A call doesn't end before the moment at which it began.
use Rattle.std.proofs.Common.{◌≢◌, ◌≤◌, ◌⊎◌, ⊎_elim, ℕ, Bool, IsTrue, Some}
use Rattle.std.proofs.lemmas.Bool.{cases_eq}
use Rattle.board_file.specs.Limits.{size_of}
use Rattle.job_text.specs.Files.{IsFree}
use Rattle.job_text.specs.Stands.{IsSomeJob}
use Rattle.flash_session.specs.declared.goal.Goal.{Goal}
use Rattle.flash_session.specs.declared.goal.Goal.TheVariants.{New, Old}
use Rattle.report_text.specs.Refusal.{Refusal, job_open, no_job, not_a_job, damaged, cells_differ}
use Rattle.command_words.specs.Files.{FilesAsked, Command, program, begin, resume, revert, plan, verify, compare, status, inspect, dump, demo}
use Rattle.command_files.specs.Files.{Aim}
use Rattle.command_files.specs.Inputs.{FilesGiven}
use Rattle.command_files.specs.Call as answers
use Rattle.command_files.specs.Call.{BenchCall, SinkCall, Answer, refused}
use Rattle.command_files.specs.Answered.{Refuses, OnlyLooked, StandsEarly, on_job_file}
use Rattle.command_files.proofs.RefusalLemmas.{looks}
use Rattle.job_commands.specs.Beginning.{EndsOnJob}
use Rattle.job_commands.specs.GoOn.{GoOnAnswers}
use Rattle.job_commands.specs.Printed.{PrintsWork}
use Rattle.job_commands.specs.Program as programs
use Rattle.job_commands.specs.Begin as begins
use Rattle.flm_cli.specs.Answers.{Answers}
use Rattle.promise.proofs.ClassLemmas.{IsDamagedSo, IsNoJobSo, AreBytes, something}
use Rattle.promise.proofs.BeginLemmas.{Works, Stays, by_answer}

abbrev IsForward : answers.Call → Type 0
IsForward call = call.bench.before.moment ≤ call.bench.after.moment

-- a call that only looked at its job file
seen : (call : answers.Call) (answer : Answer) (refusal : Refusal) → IsTrue call.bench.tells
    → (StandsEarly on_job_file call.bench call.out (refused refusal) → OnlyLooked call.bench call.out) → StandsEarly on_job_file call.bench call.out answer
    → Refuses (OnlyLooked call.bench call.out) answer refusal → IsForward call
seen call answer refusal told early stands refuses =
    ((looks call.bench call.out answer refusal early stands refuses).reads told).moments.goes_on.later

goes_on : (goal : Goal) (call : answers.Call) → IsTrue call.bench.tells → AreBytes call.bench.before.file → GoOnAnswers goal call → IsForward call
goes_on goal call told bytes answers =
    let file = call.bench.before.file in
    let from = answers.ends.told told in
    let stands = answers.ends.lawful.stands in
    ⊎_elim
    (λ (is_free : IsFree file). seen call answers.answer no_job told (λ early. early) stands (from.free is_free))
    (λ (rest : IsSomeJob file ⊎ (IsDamagedSo file ⊎ IsNoJobSo file)). ⊎_elim
    (λ (some : IsSomeJob file). ⊎_elim
    (λ size. (from.stands some.job some.board some.algorithms some.is some.whole size).1.stops.pairs.later)
    (λ (other : size_of some.board.regions ≢ call.bench.before.cell_count).
    seen call answers.answer (cells_differ (size_of some.board.regions) call.bench.before.cell_count) told (λ early. early) stands
    (from.other_size some other))
    (cases_eq (size_of some.board.regions) call.bench.before.cell_count))
    (λ (none : IsDamagedSo file ⊎ IsNoJobSo file). ⊎_elim
    (λ (is : IsDamagedSo file). seen call answers.answer (damaged is.0 is.1) told (λ early. early) stands (from.is_damaged is.0 is.1 is.2))
    (λ (is : IsNoJobSo file). seen call answers.answer (not_a_job is.0) told (λ early. early) stands (from.not_job is.0 is.1))
    none)
    rest)
    (something file bytes)

module _ (has : Refusal → Bool) (Prints : ℕ → SinkCall → Answer → Type 0) (Starts : BenchCall → SinkCall → FilesGiven → Aim → Answer → Type 0)
    (asked : FilesAsked) (call : answers.Call) (told : IsTrue call.bench.tells) (bytes : AreBytes call.bench.before.file) (answer : Answer)
    (ends : EndsOnJob has Prints Starts asked call.bench call.inputs call.out answer)
    (starts : (files : FilesGiven) (aim : Aim) → Starts call.bench call.out files aim answer → IsForward call) where
  worked : Works has Prints Starts asked call answer → IsForward call
  worked works =
      let file = call.bench.before.file in
      let size = size_of works.holds.aim.board.regions in
      let over = works.holds.holds.works told in
      let stands = ends.lawful.stands in
      ⊎_elim
      (λ (is_free : IsFree file). ⊎_elim
      (λ same. starts works.files works.holds.aim (over.begins works.holds.holds.has_texts is_free same))
      (λ (other : size ≢ call.bench.before.cell_count).
      seen call answer (cells_differ size call.bench.before.cell_count) told (λ early. early) stands (over.other_size is_free other))
      (cases_eq size call.bench.before.cell_count))
      (λ (rest : IsSomeJob file ⊎ (IsDamagedSo file ⊎ IsNoJobSo file)). ⊎_elim
      (λ (some : IsSomeJob file). seen call answer job_open told (λ early. early) stands (over.some_job some))
      (λ (none : IsDamagedSo file ⊎ IsNoJobSo file). ⊎_elim
      (λ (is : IsDamagedSo file). seen call answer (damaged is.0 is.1) told (λ early. early) stands (over.is_damaged is.0 is.1 is.2))
      (λ (is : IsNoJobSo file). seen call answer (not_a_job is.0) told (λ early. early) stands (over.not_job is.0 is.1))
      none)
      rest)
      (something file bytes)

  begun : IsForward call
  begun = ⊎_elim
      (λ (stays : Stays has Prints Starts asked call answer). stays.1.untouched.file.half.goes_on.later)
      (λ (works : Works has Prints Starts asked call answer). worked works)
      (by_answer has Prints Starts asked call answer ends)

pub forward : (command : Command) (call : answers.Call) → IsTrue call.bench.tells → AreBytes call.bench.before.file → Answers call (Some command)
    → IsForward call
forward (program asked) call told bytes it = begun programs.has_program PrintsWork programs.Begins asked call told bytes it.answer it.ends
    (λ files aim starts. starts.carries.stops.pairs.later)
forward (begin asked) call told bytes it = begun begins.has_begin begins.PrintsBegun begins.Starts asked call told bytes it.answer it.ends
    (λ files aim starts. starts.begins.pairs.files.later)
forward resume call told bytes it = goes_on New call told bytes it
forward revert call told bytes it = goes_on Old call told bytes it
forward (plan files) call told bytes it = it.ends.leaves.stops.goes_on.later
forward (verify files) call told bytes it = it.ends.leaves.stops.goes_on.later
forward (compare image) call told bytes it = it.ends.leaves.stops.goes_on.later
forward status call told bytes it = it.ends.reads.moments.goes_on.later
forward (inspect flm) call told bytes it = it.ends.untouched.file.half.goes_on.later
forward (dump form board) call told bytes it = it.ends.leaves.stops.goes_on.later
forward (demo seed) call told bytes it = it.ends.untouched.file.half.goes_on.later
