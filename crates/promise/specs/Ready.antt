-- The premises of completeness can be met: there are a bench in memory and files for which they hold.
use Rattle.std.specs.Prelude.{ℕ, List, Option}
use Rattle.bench_model.specs.Shown.{bench_of}
use Rattle.bench_model.specs.declared.memory.MemoryBench.{MemoryBench}
use Rattle.board_file.specs.Shown as board
use Rattle.flm_descriptor.specs.Shown as flm
use Rattle.algo_calls.specs.Duties.{AllServe}
use Rattle.job_text.specs.Body as written
use Rattle.job_text.specs.Files.{IsWhole}
use Rattle.job_text.specs.Jobs.{IsJob}
use Rattle.command_words.specs.Files.{FilesAsked}
use Rattle.promise.specs.Job.{Job}
use Rattle.promise.specs.Promise.{Call, FaultCounts, call_of}
use Rattle.promise.specs.Complete.{KeepsDuties, IsReady, IsReadyFor}

-- `Holds` is true of each call that begins on the bench `old` with these files under their names, whatever the call leaves and answers.
abbrev pub OfEachCall : (List ℕ → Option (List ℕ)) → MemoryBench → (Call → Type 0) → Type 0
OfEachCall file_under old Holds = (new : MemoryBench) (input_faults output_faults : FaultCounts) (status : ℕ)
    → Holds (call_of file_under (bench_of old) (bench_of new) input_faults output_faults status)

-- A job of these files has algorithms that keep their duties. It is ready for each call of `program` on the bench `old`, and for each call of
-- `resume` and `revert` on the bench `new`. That no fault is counted isn't among these premises, since it depends on the call. A call over a
-- bench in memory counts none if the bench isn't set to fail.
pub record PremisesAreMet (asked : FilesAsked) (file_under : List ℕ → Option (List ℕ)) (old new : MemoryBench) : Type 0 where
  pub job : Job
  pub duties : KeepsDuties job
  pub program : OfEachCall file_under old (λ call. IsReadyFor call asked job)
  pub taken_up : (others : List ℕ → Option (List ℕ)) → OfEachCall others new (λ call. IsReady call job)

-- The file stands for a job whose algorithms keep their duties on its board.
pub record IsServed (file : List ℕ) : Type 0 where
  pub text : written.Job
  pub board : board.Shown
  pub algorithms : List flm.Shown
  pub is : IsJob text board algorithms
  pub whole : IsWhole (written.body_of text) file
  pub serve : AllServe board algorithms
