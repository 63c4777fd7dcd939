-- `program` and `begin`: a job is begun, or the call is refused.
use Rattle.std.proofs.Common.{◌≡◌, ◌≢◌, ◌⊎◌, ⊎_elim, inl, inr, refl, subst, arith, ℕ, Bool, IsTrue, List}
use Rattle.std.proofs.lemmas.Bool.{cases_eq}
use Rattle.board_file.specs.Limits.{size_of}
use Rattle.bench_model.specs.State.{SameOutside}
use Rattle.job_text.specs.Files.{IsFree}
use Rattle.job_text.specs.Jobs.{IsJob}
use Rattle.job_text.specs.Stands.{IsSomeJob}
use Rattle.campaign.specs.Stops.{IsUntouched}
use Rattle.flash_session.specs.declared.goal.Goal.TheVariants.{New}
use Rattle.report_text.specs.Refusal.{Refusal, out_of_memory, usage, input_fault, image_too_long, image_refused, image_misplaced, flm_refused, other_device}
use Rattle.report_text.specs.Refusal.{no_room, board_refused, job_open, not_a_job, damaged, cells_differ}
use Rattle.command_words.specs.Files.{FilesAsked}
use Rattle.command_files.specs.Inputs.{FilesGiven, AreFiles, Given}
use Rattle.command_files.specs.Files.{Aim, IsAim}
use Rattle.command_files.specs.Call as answers
use Rattle.command_files.specs.Call.{BenchCall, SinkCall, Answer, done, refused}
use Rattle.command_files.specs.Answered.{DidNothing}
use Rattle.command_files.specs.Reading.{WantAnAim}
use Rattle.job_commands.specs.Beginning.{EndsOnJob, HasTexts, ShowsJob, job_for}
use Rattle.job_commands.specs.Printed.{PrintsWork}
use Rattle.job_commands.specs.Program as program
use Rattle.job_commands.specs.Begin as begin
use Rattle.promise.specs.Promise.{IsIdle, EndsOperation, IsBegun, ProgramsJob, BeginsJob}
use Rattle.promise.specs.Recovery.{IsTaken}
use Rattle.promise.proofs.ClassLemmas.{IsDamagedSo, IsNoJobSo, AreBytes, something}
use Rattle.promise.proofs.StopLemmas.{its}
use Rattle.promise.proofs.RefusedLemmas.{looked, nothing}
use Rattle.promise.proofs.CarryLemmas.{job_of, ends_operation, carries, taken}
use Rattle.promise.proofs.FileLemmas.{of_files, second_format}

module _ (has : Refusal → Bool) (Prints : ℕ → SinkCall → Answer → Type 0) (Starts : BenchCall → SinkCall → FilesGiven → Aim → Answer → Type 0)
    (asked : FilesAsked) (call : answers.Call) where
  abbrev pub Works : Answer → Type 0
  Works answer = Given call.inputs asked (WantAnAim asked (ShowsJob Prints Starts call.bench call.out answer))

  abbrev pub Stays : Answer → Type 0
  Stays answer = (answer ≡ done → ⊥) × DidNothing call.bench call.out

  -- each answer comes before the work, with nothing done, or from the work
  pub by_answer : (answer : Answer) → EndsOnJob has Prints Starts asked call.bench call.inputs call.out answer → Stays answer ⊎ Works answer
  by_answer done ends = inr ends.files.shows
  by_answer (refused out_of_memory) ends = ⊎_elim
      (λ (did : DidNothing call.bench call.out). inl ((λ is. cc), did))
      (λ (works : Works (refused out_of_memory)). inr works)
      (ends.memory refl)
  by_answer (refused usage) ends = inl ((λ is. cc), ends.lawful.stands)
  by_answer (refused (input_fault name)) ends = inl ((λ is. cc), ends.lawful.stands)
  by_answer (refused (image_too_long bytes cells)) ends = inl ((λ is. cc), ends.lawful.stands)
  by_answer (refused (image_refused name fault)) ends = inl ((λ is. cc), ends.lawful.stands)
  by_answer (refused (image_misplaced fault)) ends = inl ((λ is. cc), ends.lawful.stands)
  by_answer (refused (flm_refused fault)) ends = inl ((λ is. cc), ends.lawful.stands)
  by_answer (refused (other_device base size)) ends = inl ((λ is. cc), ends.lawful.stands)
  by_answer (refused (no_room need have)) ends = inl ((λ is. cc), ends.lawful.stands)
  by_answer (refused (board_refused fault)) ends = inl ((λ is. cc), ends.lawful.stands)
  by_answer (refused refusal) ends = inr ends.files.shows

  module _ (told : IsTrue call.bench.tells) (bytes : AreBytes call.bench.before.file) (answer : Answer) (zero : call.status ≡ 0 → answer ≡ done)
      (ends : EndsOnJob has Prints Starts asked call.bench call.inputs call.out answer) (Begun : Type 0)
      (begun : (works : Works answer) → IsFree call.bench.before.file
      → size_of works.holds.aim.board.regions ≡ call.bench.before.cell_count → Starts call.bench call.out works.files works.holds.aim answer → Begun) where
    worked : Works answer → IsIdle (its call) ⊎ Begun
    worked works =
        let file = call.bench.before.file in
        let size = size_of works.holds.aim.board.regions in
        let over = works.holds.holds.works told in
        let stands = ends.lawful.stands in
        ⊎_elim
        (λ (is_free : IsFree file). ⊎_elim
        (λ (same : size_of works.holds.aim.board.regions ≡ call.bench.before.cell_count). inr
        (begun works is_free same (over.begins works.holds.holds.has_texts is_free same)))
        (λ (other : size_of works.holds.aim.board.regions ≢ call.bench.before.cell_count).
        inl (looked call answer (cells_differ size call.bench.before.cell_count) told zero (λ early. early) stands (over.other_size is_free other)))
        (cases_eq size call.bench.before.cell_count))
        (λ (rest : IsSomeJob file ⊎ (IsDamagedSo file ⊎ IsNoJobSo file)). ⊎_elim
        (λ (some : IsSomeJob file). inl (looked call answer job_open told zero (λ early. early) stands (over.some_job some)))
        (λ (none : IsDamagedSo file ⊎ IsNoJobSo file). ⊎_elim
        (λ (is : IsDamagedSo file). inl (looked call answer (damaged is.0 is.1) told zero (λ early. early) stands (over.is_damaged is.0 is.1 is.2)))
        (λ (is : IsNoJobSo file). inl (looked call answer (not_a_job is.0) told zero (λ early. early) stands (over.not_job is.0 is.1)))
        none)
        rest)
        (something file bytes)

    pub begun_or_refused : IsIdle (its call) ⊎ Begun
    begun_or_refused = ⊎_elim
        (λ (stays : Stays answer). inl (nothing call answer zero stays.0 stays.1))
        (λ (works : Works answer). worked works)
        (by_answer answer ends)

module _ (asked : FilesAsked) (call : answers.Call) (told : IsTrue call.bench.tells) (told_files : IsTrue call.inputs.tells)
    (bytes : AreBytes call.bench.before.file) where
  -- a job of the command's files is begun
  pub begun_so : (files : FilesGiven) (aim : Aim) (snapshot : List ℕ) → AreFiles call.inputs asked files → IsAim asked.raw_at files aim → HasTexts files aim
      → IsJob (job_for files aim snapshot) aim.board aim.algorithms → IsFree call.bench.before.file
      → SameOutside call.bench.before.operation call.bench.before.cells snapshot → EndsOperation (its call) snapshot
      → IsBegun (its call) asked (job_of (job_for files aim snapshot) aim.board)
  begun_so files aim snapshot are is has is_job free outside ends = record {
    files = of_files call.inputs asked files aim snapshot told_files are is has is_job;
    format = second_format call.inputs asked files aim snapshot told_files are is has is_job;
    free = free;
    snapshot = outside;
    operation = ends;
  }

  pub programs : program.ProgramAnswers asked call → IsIdle (its call)
      ⊎ ((p : ProgramsJob (its call) asked) × IsTaken (its call) p.job p.begun.files.says)
  programs it = begun_or_refused program.has_program PrintsWork program.Begins asked call told bytes it.answer it.zero it.ends
      ((p : ProgramsJob (its call) asked) × IsTaken (its call) p.job p.begun.files.says)
      (λ works is_free same starts.
      let aim = works.holds.aim in
      let text = job_for works.files aim starts.snapshot in
      let p : ProgramsJob (its call) asked = record {
        job = job_of text aim.board;
        begun = begun_so works.files aim starts.snapshot works.are_files works.holds.is_aim works.holds.holds.has_texts starts.is_job is_free
            starts.carries.surveyed (ends_operation call (IsUntouched call.bench.before) starts.carries.stops);
        carries = carries call it.answer it.zero it.says New text aim.board aim.algorithms starts.is_job (IsUntouched call.bench.before) starts.snapshot
            starts.carries;
      } in
      (p, taken call text aim.board aim.algorithms starts.is_job same p.begun.files.says))

  pub begins : begin.BeginAnswers asked call → IsIdle (its call)
      ⊎ ((b : BeginsJob (its call) asked) × IsTaken (its call) b.job b.begun.files.says)
  begins it = begun_or_refused begin.has_begin begin.PrintsBegun begin.Starts asked call told bytes it.answer it.zero it.ends
      ((b : BeginsJob (its call) asked) × IsTaken (its call) b.job b.begun.files.says)
      (λ works is_free same starts.
      let aim = works.holds.aim in
      let text = job_for works.files aim starts.snapshot in
      let off = starts.begins.broken_off in
      let b : BeginsJob (its call) asked = record {
        job = job_of text aim.board;
        begun = begun_so works.files aim starts.snapshot works.are_files works.holds.is_aim works.holds.holds.has_texts starts.is_job is_free
            starts.begins.surveyed (record {
              end = off.turn;
              started = off.moments.started;
              at_entry = off.at_entry;
              at_exit = off.ended;
              before = λ k f c from to f_at c_at early. off.moments.before k c from to early c_at;
              leaves = λ c to c_at. off.moments.from off.turn c (omega arith) to c_at;
            });
        done = λ is_zero.
            let comes = subst (λ (a : Answer). begin.BegunComes call.bench call.out begin.begun_text text a) (it.zero is_zero) starts.begins.comes in
            (comes.0.file, comes.0.cells, comes.0.idle);
        stopped = λ k f c from to f_at c_at. starts.begins.pairs.each k f c from to f_at c_at;
      } in
      (b, taken call text aim.board aim.algorithms starts.is_job same b.begun.files.says))
