-- From the steps of `program` and `begin` to their ends, with a lemma for each step that may end them.
use Rattle.std.proofs.Common.{◌≡◌, ◌≢◌, ◌≤◌, ◌⊎◌, ⊎_elim, ◌∙◌, inl, inr, refl, sym, subst, ℕ, Bool, true, false, IsTrue, List, length, Option, option_copied}
use Rattle.std.proofs.Common.{None}
use Rattle.std.specs.Option.{ForSome}
use Rattle.bench_model.specs.History.{left}
use Rattle.bench_model.specs.State.{BenchState, cells_half, SameOutside}
use Rattle.outside_io.specs.State.{SinkState}
use Rattle.board_file.specs.Limits.{size_of}
use Rattle.board_file.specs.Shown as board
use Rattle.flm_descriptor.specs.Shown as flm
use Rattle.job_text.specs.Body.{Job}
use Rattle.job_text.specs.Jobs.{IsJob}
use Rattle.job_text.specs.Parts.{job_of, flms_of, AreParts}
use Rattle.job_text.specs.declared.parts.JobParts.{JobParts}
use Rattle.campaign.specs.Stops.{IsUntouched}
use Rattle.flash_session.specs.declared.goal.Goal.TheVariants.{New}
use Rattle.report_text.specs.Refusal.{Refusal, out_of_memory, usage, input_fault, flm_refused, other_device, no_room, board_refused, image_refused}
use Rattle.report_text.specs.Refusal.{image_misplaced, job_open, not_a_job, damaged, cells_differ, store_fault, device_fault, output_fault, call_failed}
use Rattle.report_text.specs.Refusal.{mismatch}
use Rattle.command_words.specs.Files.{FilesAsked, names_in}
use Rattle.command_files.specs.Inputs.{InputsCall, FilesGiven, AreFiles, NoneFailed}
use Rattle.command_files.specs.Files.{flm_files, Aim, IsAim}
use Rattle.command_files.specs.Refused.{IsRefused}
use Rattle.command_files.specs.Steps.{IsTakeFault, IsFilesRefusal, TookFiles, said_aim, AreTargetFiles}
use Rattle.command_files.specs.declared.target_files.TargetFiles.{TargetFiles}
use Rattle.command_files.specs.Call.{BenchCall, SinkCall, Answer, done, refused, bench_call, sink_call}
use Rattle.command_files.specs.Answered.{fault_in, Refuses, OnlyLooked, StandsEarly, IsOf, on_job_file}
use Rattle.command_files.specs.Reading.{ShowsFiles}
use Rattle.command_files.proofs.AnswerLemmas.{did_nothing, only_looked, plain_lawful, untaken_lawful}
use Rattle.command_files.proofs.ReadingLemmas.{answers_refused, answers_worked}
use Rattle.job_commands.specs.Carry.{Carries}
use Rattle.job_commands.specs.GoOn.{work_to}
use Rattle.job_commands.specs.Printed.{PrintsWork}
use Rattle.job_commands.specs.Beginning.{job_for, HasTexts, OverFile, BeginsFor, ShowsJob, EndsOnJob}
use Rattle.job_commands.specs.Program.{Begins, ProgramEnds, has_program}
use Rattle.job_commands.specs.Begin.{begun_text, BeginsAlone, Starts, PrintsBegun, BeginEnds, has_begin}
use Rattle.job_commands.specs.Steps.{has_alone, has_work, BenchCounted, StartsParts, BeginsParts}
use Rattle.job_commands.proofs.CountLemmas.{worked_lawful}
use Rattle.job_commands.proofs.KindLemmas.{program_kind, begin_command, alone_work, begin_of_program}
use Rattle.job_commands.proofs.EntryLemmas.{IsEarly, program_unread, begin_unread}
use Rattle.job_commands.proofs.RegionLemmas.{said_parts, flms_are}

-- A command with the refusals of `begin` ends before any work.
module _ (has : Refusal → Bool) (Prints : ℕ → SinkCall → Answer → Type 0) (Goes : BenchCall → SinkCall → FilesGiven → Aim → Answer → Type 0)
    (all : (r : Refusal) → has_begin r ≡ true → has r ≡ true) (tells sinks : Bool) (b : BenchState) (o : SinkState) (inputs : InputsCall)
    (asked : FilesAsked) where
  abbrev Bench : BenchCall
  Bench = bench_call tells b b

  abbrev Out : SinkCall
  Out = sink_call sinks o o

  abbrev Ends : Refusal → Type 0
  Ends r = EndsOnJob has Prints Goes asked Bench inputs Out (refused r)

  module _ (unread : (r : Refusal) → IsEarly r → (files : FilesGiven) (aim : Aim) → IsAim asked.raw_at files aim
      → BeginsFor Goes Bench Out (refused r) files aim) where
    ends_untaken : (r : Refusal) → IsTakeFault inputs (names_in asked) r → Ends r
    ends_untaken out_of_memory is = record {
      lawful = untaken_lawful tells sinks b o inputs on_job_file has (names_in asked) out_of_memory (only_looked tells sinks b o) (all out_of_memory refl)
          (λ name. all (input_fault name) refl) is;
      files = record {
        shows = tt;
        refuses = λ files refusal told are refused'. inr (refl, did_nothing tells sinks b o);
        goes = λ files aim told are is_aim. unread out_of_memory tt files aim is_aim;
      };
      memory = λ its. inl (did_nothing tells sinks b o);
    }
    ends_untaken (input_fault name) is = record {
      lawful = untaken_lawful tells sinks b o inputs on_job_file has (names_in asked) (input_fault name) (only_looked tells sinks b o) (all out_of_memory refl)
          (λ other. all (input_fault other) refl) is;
      files = record {
        shows = tt;
        refuses = λ files refusal told are refused'. inr (refl, did_nothing tells sinks b o);
        goes = λ files aim told are is_aim. unread (input_fault name) tt files aim is_aim;
      };
      memory = λ its. inl (did_nothing tells sinks b o);
    }
    ends_untaken r is = absurd is

    module _ (files : FilesGiven) (are : AreFiles inputs asked files) (same : NoneFailed inputs) where
      -- the files are refused
      ends_refused : (r : Refusal) → has_begin r ≡ true → fault_in (refused r) ≡ None → IsRefused asked files r
          → ShowsFiles inputs asked (ShowsJob Prints Goes Bench Out (refused r)) (refused r) → Ends r
      ends_refused r its no_fault is shows = record {
        lawful = plain_lawful tells sinks b o inputs on_job_file has (names_in asked) r (only_looked tells sinks b o) (all r its) same no_fault;
        files = answers_refused Bench inputs Out asked (ShowsJob Prints Goes Bench Out (refused r)) (BeginsFor Goes Bench Out (refused r)) r files are is shows;
        memory = λ its. inl (did_nothing tells sinks b o);
      }

      ends_unread : (r : Refusal) → IsFilesRefusal asked files r → Ends r
      ends_unread out_of_memory is = ends_untaken out_of_memory same
      ends_unread (board_refused fault) is = ends_refused (board_refused fault) refl refl is (record { files = files; are_files = are; holds = is })
      ends_unread usage is = ends_refused usage refl refl is (record { files = files; are_files = are; holds = is })
      ends_unread (flm_refused fault) is = ends_refused (flm_refused fault) refl refl is (record { files = files; are_files = are; holds = is })
      ends_unread (other_device base size) is = ends_refused (other_device base size) refl refl is (record { files = files; are_files = are; holds = is })
      ends_unread (no_room need have) is = ends_refused (no_room need have) refl refl is (record { files = files; are_files = are; holds = is })
      ends_unread (image_refused name fault) is = ends_refused (image_refused name fault) refl refl is (record { files = files; are_files = are; holds = is })
      ends_unread (image_misplaced fault) is = ends_refused (image_misplaced fault) refl refl is (record { files = files; are_files = are; holds = is })
      ends_unread r is = absurd is

    -- the files can't be taken, or are refused
    ends_early : (r : Refusal) → IsTakeFault inputs (names_in asked) r ⊎ TookFiles inputs asked (λ files. IsFilesRefusal asked files r) → Ends r
    ends_early r is = ⊎_elim (λ untaken. ends_untaken r untaken) (λ took. ends_unread took.given.files took.given.are_files took.none_failed r took.given.holds)
        is

module _ (tells sinks : Bool) (b : BenchState) (o : SinkState) (inputs : InputsCall) (asked : FilesAsked)
    (many : IsTrue tells → length b.cells ≡ b.cell_count)
    (exact : IsTrue tells → (x : List ℕ) → left (cells_half b) x → SameOutside b.operation b.cells x) where
  unread_program : (r : Refusal) → IsEarly r → (files : FilesGiven) (aim : Aim) → IsAim asked.raw_at files aim
      → BeginsFor Begins (bench_call tells b b) (sink_call sinks o o) (refused r) files aim
  unread_program r its files aim is told = program_unread tells sinks b o (many told) (exact told) asked.raw_at files aim is r its

  unread_begin : (r : Refusal) → IsEarly r → (files : FilesGiven) (aim : Aim) → IsAim asked.raw_at files aim
      → BeginsFor Starts (bench_call tells b b) (sink_call sinks o o) (refused r) files aim
  unread_begin r its files aim is told = begin_unread tells sinks b o (many told) (exact told) asked.raw_at files aim is r its

  pub program_untaken : (r : Refusal) → IsTakeFault inputs (names_in asked) r
      → ProgramEnds asked (bench_call tells b b) inputs (sink_call sinks o o) (refused r)
  program_untaken r is = ends_untaken has_program PrintsWork Begins begin_of_program tells sinks b o inputs asked unread_program r is

  pub begin_untaken : (r : Refusal) → IsTakeFault inputs (names_in asked) r → BeginEnds asked (bench_call tells b b) inputs (sink_call sinks o o) (refused r)
  begin_untaken r is = ends_untaken has_begin PrintsBegun Starts (λ r its. its) tells sinks b o inputs asked unread_begin r is

  pub program_early : (r : Refusal) → IsTakeFault inputs (names_in asked) r ⊎ TookFiles inputs asked (λ files. IsFilesRefusal asked files r)
      → ProgramEnds asked (bench_call tells b b) inputs (sink_call sinks o o) (refused r)
  program_early r is = ends_early has_program PrintsWork Begins begin_of_program tells sinks b o inputs asked unread_program r is

  pub begin_early : (r : Refusal) → IsTakeFault inputs (names_in asked) r ⊎ TookFiles inputs asked (λ files. IsFilesRefusal asked files r)
      → BeginEnds asked (bench_call tells b b) inputs (sink_call sinks o o) (refused r)
  begin_early r is = ends_early has_begin PrintsBegun Starts (λ r its. its) tells sinks b o inputs asked unread_begin r is

-- A job that was begun from the parts is the job of the files that the parts come from.
module _ (bench : BenchCall) (out : SinkCall) (answer : Answer) (files : FilesGiven) (aim : Aim) (parts : JobParts) (are : AreParts parts)
    (board_is : files.board ≡ parts.board.now) (flms_are : flms_of parts ≡ flm_files files.flm files.images aim.board) (image_is : aim.image ≡ parts.image.now)
    (size_is : size_of aim.board.regions ≡ parts.size) (board_says : are.board ≡ aim.board) (algorithms_say : are.algorithms ≡ aim.algorithms) where
  same_job : (snapshot : List ℕ) → job_of parts snapshot ≡ job_for files aim snapshot
  same_job snapshot = cc

  its_job : (snapshot : List ℕ) → IsJob (job_of parts snapshot) are.board are.algorithms → IsJob (job_for files aim snapshot) aim.board aim.algorithms
  its_job snapshot is = subst (λ (j : Job). IsJob j aim.board aim.algorithms) (same_job snapshot)
      (subst (λ (y : board.Shown). IsJob (job_of parts snapshot) y aim.algorithms) board_says
      (subst (λ (xs : List flm.Shown). IsJob (job_of parts snapshot) are.board xs) algorithms_say is))

  over_parts : (Of : AreParts parts → Type 0) (Its : Type 0) → (Of are → Its) → OverFile bench out parts.size answer (AreParts parts) Of
      → OverFile bench out (size_of aim.board.regions) answer (HasTexts files aim) (λ has. Its)
  over_parts Of Its step over = record {
    free = over.free;
    some_job = over.some_job;
    not_job = over.not_job;
    is_damaged = over.is_damaged;
    other_size = λ is_free unequal.
        subst (λ (n : ℕ). (n ≢ bench.before.cell_count) → Refuses (OnlyLooked bench out) answer (cells_differ n bench.before.cell_count)) (sym size_is)
        (over.other_size is_free) unequal;
    begins = λ has is_free size. step (over.begins are is_free (sym size_is ∙ size));
  }

  pub begins_on_parts : BeginsParts bench out parts answer → OverFile bench out (size_of aim.board.regions) answer (HasTexts files aim)
      (λ has. Begins bench out files aim answer)
  begins_on_parts over = over_parts
      (λ are. (snapshot : List ℕ) × IsJob (job_of parts snapshot) are.board are.algorithms
      × Carries bench out (IsUntouched bench.before) (work_to New (job_of parts snapshot) are.board are.algorithms snapshot) answer)
      (Begins bench out files aim answer)
      (λ of. record {
        snapshot = of.0;
        is_job = its_job of.0 of.1;
        carries = subst (λ (j : Job). Carries bench out (IsUntouched bench.before) (work_to New j aim.board aim.algorithms of.0) answer) (same_job of.0)
            (subst (λ (y : board.Shown). Carries bench out (IsUntouched bench.before) (work_to New (job_of parts of.0) y aim.algorithms of.0) answer) board_says
            (subst (λ (xs : List flm.Shown). Carries bench out (IsUntouched bench.before) (work_to New (job_of parts of.0) are.board xs of.0) answer)
            algorithms_say of.2));
      })
      over

  pub starts_on_parts : StartsParts bench out begun_text parts answer
      → OverFile bench out (size_of aim.board.regions) answer (HasTexts files aim) (λ has. Starts bench out files aim answer)
  starts_on_parts over = over_parts
      (λ are. (snapshot : List ℕ) × IsJob (job_of parts snapshot) are.board are.algorithms × BeginsAlone bench out begun_text (job_of parts snapshot) answer)
      (Starts bench out files aim answer)
      (λ of. record {
        snapshot = of.0;
        is_job = its_job of.0 of.1;
        begins = subst (λ (j : Job). BeginsAlone bench out begun_text j answer) (same_job of.0) of.2;
      })
      over

-- The work on the parts from the files, and on what the files want.
module _ (bench : BenchCall) (out : SinkCall) (answer : Answer) (raw_at : Option ℕ) (files : FilesGiven) (said : TargetFiles)
    (is : AreTargetFiles raw_at files said)
    (short_board : length said.board_text ≤ 67108864) (short_flm : length said.flm ≤ 67108864)
    (short_second : ForSome said.second (λ (bytes : List ℕ). length bytes ≤ 67108864))
    (parts : JobParts) (board_is : parts.board.now ≡ said.board_text) (flm_is : parts.flm.now ≡ said.flm) (second_is : option_copied parts.second ≡ said.second)
    (image_is : parts.image.now ≡ (said_aim said).image) (size_is : parts.size ≡ size_of (said_aim said).board.regions) where
  pub said_begins : BeginsParts bench out parts answer
      → OverFile bench out (size_of (said_aim said).board.regions) answer (HasTexts files (said_aim said))
      (λ has. Begins bench out files (said_aim said) answer)
  said_begins begins =
      begins_on_parts bench out answer files (said_aim said) parts
      (said_parts raw_at files said is short_board short_flm short_second parts board_is flm_is second_is image_is size_is)
      (is.board_text ∙ sym board_is) (flms_are raw_at files said is short_board short_flm short_second parts board_is flm_is second_is image_is size_is)
      (sym image_is) (sym size_is) refl refl begins

  pub said_starts : StartsParts bench out begun_text parts answer
      → OverFile bench out (size_of (said_aim said).board.regions) answer (HasTexts files (said_aim said))
      (λ has. Starts bench out files (said_aim said) answer)
  said_starts starts =
      starts_on_parts bench out answer files (said_aim said) parts
      (said_parts raw_at files said is short_board short_flm short_second parts board_is flm_is second_is image_is size_is)
      (is.board_text ∙ sym board_is) (flms_are raw_at files said is short_board short_flm short_second parts board_is flm_is second_is image_is size_is)
      (sym image_is) (sym size_is) refl refl starts

-- The work of a command whose files are right.
module _ (bench : BenchCall) (inputs : InputsCall) (out : SinkCall) (asked : FilesAsked) (files : FilesGiven) (aim : Aim) (are : AreFiles inputs asked files)
    (is : IsAim asked.raw_at files aim) where
  module _ (Holds : FilesGiven → Aim → Type 0) where
    works_show : (answer : Answer) → IsOf has_work answer → Holds files aim → ShowsFiles inputs asked Holds answer
    works_show done kind works = record { files = files; are_files = are; holds = record { aim = aim; is_aim = is; holds = works } }
    works_show (refused out_of_memory) kind works = tt
    works_show (refused job_open) kind works = record { files = files; are_files = are; holds = record { aim = aim; is_aim = is; holds = works } }
    works_show (refused (not_a_job at)) kind works = record { files = files; are_files = are; holds = record { aim = aim; is_aim = is; holds = works } }
    works_show (refused (damaged kept found)) kind works = record { files = files; are_files = are; holds = record { aim = aim; is_aim = is; holds = works } }
    works_show (refused (cells_differ wanted found)) kind works =
        record { files = files; are_files = are; holds = record { aim = aim; is_aim = is; holds = works } }
    works_show (refused store_fault) kind works = record { files = files; are_files = are; holds = record { aim = aim; is_aim = is; holds = works } }
    works_show (refused device_fault) kind works = record { files = files; are_files = are; holds = record { aim = aim; is_aim = is; holds = works } }
    works_show (refused output_fault) kind works = record { files = files; are_files = are; holds = record { aim = aim; is_aim = is; holds = works } }
    works_show (refused (call_failed number call end)) kind works =
        record { files = files; are_files = are; holds = record { aim = aim; is_aim = is; holds = works } }
    works_show (refused (mismatch at wanted found)) kind works =
        record { files = files; are_files = are; holds = record { aim = aim; is_aim = is; holds = works } }
    works_show (refused r) kind works = absurd (cc)

  module _ (has its : Refusal → Bool) (Prints : ℕ → SinkCall → Answer → Type 0) (Goes : BenchCall → SinkCall → FilesGiven → Aim → Answer → Type 0)
      (none : (name : List ℕ) → its (input_fault name) ≡ false) where
    ends_worked : NoneFailed inputs → (answer : Answer) → IsOf has answer → IsOf its answer → IsOf has_work answer → BenchCounted bench out answer
        → StandsEarly on_job_file bench out answer → ShowsJob Prints Goes bench out answer files aim → EndsOnJob has Prints Goes asked bench inputs out answer
    ends_worked same answer kind one work counts stands shows = record {
      lawful = worked_lawful bench inputs out has its (names_in asked) answer kind one none same counts stands;
      files = answers_worked bench inputs out asked (ShowsJob Prints Goes bench out answer) (BeginsFor Goes bench out answer) answer files aim are is
          (works_show (ShowsJob Prints Goes bench out answer) answer work shows) shows.works;
      memory = λ its. inr (record {
        files = files;
        are_files = are;
        holds = record { aim = aim; is_aim = is; holds = subst (λ (a : Answer). ShowsJob Prints Goes bench out a files aim) its shows };
      });
    }

  pub program_worked : NoneFailed inputs → (answer : Answer) → IsOf has_work answer → BenchCounted bench out answer
      → StandsEarly on_job_file bench out answer → ShowsJob PrintsWork Begins bench out answer files aim → ProgramEnds asked bench inputs out answer
  program_worked same answer kind counts stands shows =
      ends_worked has_program has_work PrintsWork Begins (λ name. refl) same answer (program_kind answer kind) kind kind counts stands shows

  pub begin_worked : NoneFailed inputs → (answer : Answer) → IsOf has_alone answer → BenchCounted bench out answer
      → StandsEarly on_job_file bench out answer → ShowsJob PrintsBegun Starts bench out answer files aim → BeginEnds asked bench inputs out answer
  begin_worked same answer kind counts stands shows =
      ends_worked has_begin has_alone PrintsBegun Starts (λ name. refl) same answer (begin_command answer kind) kind (alone_work answer kind) counts stands
      shows
