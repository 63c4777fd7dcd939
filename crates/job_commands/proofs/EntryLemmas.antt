-- A command on a job ends before any work: neither the bench nor `out` was called.
use Rattle.std.proofs.Common.{◌≡◌, ◌⊎◌, inl, inr, refl, ◌∙◌, sym, ℕ, Bool, true, false, List, length, Option}
use Rattle.bench_model.specs.History.{left}
use Rattle.bench_model.specs.State.{BenchState, file_half, cells_half, Left, SameOutside}
use Rattle.bench_model.specs.Pairs.{PairsLeave}
use Rattle.bench_model.proofs.Moments.{adds_nothing_here, pairs_of}
use Rattle.outside_io.specs.State.{SinkState}
use Rattle.board_file.specs.Limits.{size_of}
use Rattle.job_text.specs.Files.{IsWhole}
use Rattle.job_text.specs.Body.{body_of}
use Rattle.job_text.specs.Jobs.{IsJob}
use Rattle.campaign.specs.Stops.{IsUntouched}
use Rattle.flash_session.specs.declared.goal.Goal.{Goal}
use Rattle.flash_session.specs.declared.goal.Goal.TheVariants.{New}
use Rattle.report_text.specs.Refusal.{Refusal, out_of_memory, input_fault}
use Rattle.command_files.specs.Inputs.{FilesGiven}
use Rattle.command_files.specs.Files.{Aim, IsAim}
use Rattle.command_files.specs.Call.{Answer, refused, bench_call, sink_call}
use Rattle.command_files.specs.Answered.{yields}
use Rattle.command_files.proofs.AnswerLemmas.{only_looked}
use Rattle.job_commands.specs.Work.{Work, body}
use Rattle.job_commands.specs.Answers.{is_of_free, is_of_work}
use Rattle.job_commands.specs.Carry.{Comes, BrokenOff}
use Rattle.job_commands.specs.GoOn.{work_to, GoesOnFrom}
use Rattle.job_commands.specs.Beginning.{HasTexts, job_for, OverFile}
use Rattle.job_commands.specs.Program.{Begins}
use Rattle.job_commands.specs.Begin.{begun_text, BegunComes, Starts}
use Rattle.job_commands.proofs.TurnLemmas.{same_here, off_at_end}
use Rattle.job_commands.proofs.CarryLemmas.{AsEntered, entered, ends_early, no_memory}
use Rattle.job_commands.proofs.FinishLemmas.{nothing_broken}
use Rattle.job_commands.proofs.RegionLemmas.{aim_job}

-- the refusals that come before any work, whatever the files are
abbrev pub IsEarly : Refusal → Type 0
IsEarly out_of_memory = Unit {0}
IsEarly (input_fault name) = Unit {0}
IsEarly _ = ⊥

module _ (tells sinks : Bool) (b : BenchState) (o : SinkState) (many : length b.cells ≡ b.cell_count)
    (exact : (x : List ℕ) → left (cells_half b) x → SameOutside b.operation b.cells x) where
  still : AsEntered b b
  still = entered b b exact (adds_nothing_here (cells_half b))

  -- nothing was broken off, because no call was made
  off : BrokenOff b b b.cells
  off = off_at_end b b b.cells (same_here b.operation refl) still refl exact

  pairs_here : (text : List ℕ) → PairsLeave b b (λ f c. IsUntouched b f c ⊎ IsWhole text f)
  pairs_here text = pairs_of (left (file_half b)) (λ c. SameOutside b.operation b.cells c) (λ f c. IsUntouched b f c ⊎ IsWhole text f)
      (adds_nothing_here (file_half b)) still (λ f c at outside. inl (record { free = inr at; outside = outside }))

  pub goes_on_unread : (goal : Goal) → GoesOnFrom goal (bench_call tells b b) (sink_call sinks o o) (refused out_of_memory)
  goes_on_unread goal = record {
    free = λ is_free. inr (refl, only_looked tells sinks b o);
    not_job = λ at no. inr (refl, only_looked tells sinks b o);
    is_damaged = λ kept found is. inr (refl, only_looked tells sinks b o);
    other_size = λ some unequal. inr (refl, only_looked tells sinks b o);
    stands = λ job c xs is_job whole size. (
      b.cells,
      no_memory tells sinks b b o (work_to goal job c xs b.cells) whole (same_here b.operation refl) refl (same_here b.operation refl)
          (pairs_of (left (file_half b)) (left (cells_half b)) (λ f c. Left b f c ⊎ IsWhole (body_of job) f) (adds_nothing_here (file_half b))
          (adds_nothing_here (cells_half b)) (λ f c at exactly. inl (at, exactly))) off,
    );
  }

  -- a command that begins a job ends before any work
  over_here : {Known : Type 0} {Begins : Known → Type 0} (size : ℕ) (answer : Answer) → yields answer ≡ true → (is_of_free answer ≡ true → ⊥)
      → ((known : Known) → size ≡ b.cell_count → Begins known) → OverFile (bench_call tells b b) (sink_call sinks o o) size answer Known Begins
  over_here size answer yield other begins = record {
    free = λ its. absurd (other its);
    some_job = λ some. inr (yield, only_looked tells sinks b o);
    not_job = λ at no. inr (yield, only_looked tells sinks b o);
    is_damaged = λ kept found damage. inr (yield, only_looked tells sinks b o);
    other_size = λ is_free unequal. inr (yield, only_looked tells sinks b o);
    begins = λ known is_free sized. begins known sized;
  }

  module _ (raw_at : Option ℕ) (files : FilesGiven) (aim : Aim) (is : IsAim raw_at files aim) where
    its_job : HasTexts files aim → size_of aim.board.regions ≡ b.cell_count → IsJob (job_for files aim b.cells) aim.board aim.algorithms
    its_job has sized = aim_job raw_at files aim has b.cells is (many ∙ sym sized)

    program_begins : (answer : Answer) → yields answer ≡ true → is_of_work answer ≡ false
        → ((w : Work) → Comes (bench_call tells b b) (sink_call sinks o o) w nothing_broken answer)
        → HasTexts files aim → size_of aim.board.regions ≡ b.cell_count → Begins (bench_call tells b b) (sink_call sinks o o) files aim answer
    program_begins answer yield early comes has sized =
        let w = work_to New (job_for files aim b.cells) aim.board aim.algorithms b.cells in
        record {
          snapshot = b.cells;
          is_job = its_job has sized;
          carries = ends_early tells b b (sink_call sinks o o) (IsUntouched b) w answer (same_here b.operation refl) (comes w) yield (pairs_here (body w)) off
              (inl (early, record { taken = refl; faults = refl }));
        }

    begin_starts : (answer : Answer) → BegunComes (bench_call tells b b) (sink_call sinks o o) begun_text (job_for files aim b.cells) answer
        → HasTexts files aim → size_of aim.board.regions ≡ b.cell_count → Starts (bench_call tells b b) (sink_call sinks o o) files aim answer
    begin_starts answer comes has sized = record {
      snapshot = b.cells;
      is_job = its_job has sized;
      begins = record {
        surveyed = same_here b.operation refl;
        comes = comes;
        pairs = pairs_here (body_of (job_for files aim b.cells));
        broken_off = off;
      };
    }

    -- `program` and `begin` end before any work
    pub program_unread : (r : Refusal) → IsEarly r → OverFile (bench_call tells b b) (sink_call sinks o o) (size_of aim.board.regions) (refused r)
        (HasTexts files aim)
        (λ has. Begins (bench_call tells b b) (sink_call sinks o o) files aim (refused r))
    program_unread out_of_memory its = over_here (size_of aim.board.regions) (refused out_of_memory) refl (λ of. cc)
        (program_begins (refused out_of_memory) refl refl (λ w. record {
          file = inr refl;
          cells = same_here b.operation refl;
          prints =
              record { taken = refl; faults = refl };
        }))
    program_unread (input_fault name) its = over_here (size_of aim.board.regions) (refused (input_fault name)) refl (λ of. cc)
        (program_begins (refused (input_fault name)) refl refl (λ w. tt))
    program_unread r its = absurd its

    pub begin_unread : (r : Refusal) → IsEarly r → OverFile (bench_call tells b b) (sink_call sinks o o) (size_of aim.board.regions) (refused r)
        (HasTexts files aim)
        (λ has. Starts (bench_call tells b b) (sink_call sinks o o) files aim (refused r))
    begin_unread out_of_memory its = over_here (size_of aim.board.regions) (refused out_of_memory) refl (λ of. cc)
        (begin_starts (refused out_of_memory) (only_looked tells sinks b o))
    begin_unread (input_fault name) its = over_here (size_of aim.board.regions) (refused (input_fault name)) refl (λ of. cc)
        (begin_starts (refused (input_fault name)) tt)
    begin_unread r its = absurd its
