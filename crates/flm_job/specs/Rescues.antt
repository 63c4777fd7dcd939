-- What is given of a damaged job.
use Rattle.std.specs.Prelude.{◌≡◌, ◌⊎◌, ℕ, Bool, List, codes}
use Rattle.bench_model.specs.State.{BenchState}
use Rattle.report_text.specs.Refusal.{out_of_memory, store_fault, output_fault}
use Rattle.command_files.specs.Call.{SinkCall, Answer, refused, bench_call}
use Rattle.command_files.specs.Said.{TookAll, TookPart}
use Rattle.job_parts.specs.declared.mended.MendedBench.{MendedBench}
use Rattle.job_parts.specs.declared.part.Part.{Part}
use Rattle.job_parts.specs.Mended.{with_hash}
use Rattle.job_parts.specs.Parts.{GiveEnds}

-- the line on standard error that comes before anything of a damaged job is given
abbrev pub warning : List ℕ
warning = codes "flmprog: job: its hash doesn't vouch for what is given\n"

-- The status after a part of a damaged job was given. It is that of the refusal, 7, unless there was no memory or a fault broke off what
-- was given.
abbrev pub rescued_status : Answer → ℕ
rescued_status (refused out_of_memory) = 1
rescued_status (refused store_fault) = 8
rescued_status (refused output_fault) = 10
rescued_status _ = 7

-- A part was given of the job that the file stands for with this hash. It is what `give` gives on a bench that shows the file with this
-- hash.
pub record Rescues {B : Type 0} (state : B → BenchState) (tells : Bool) (part : Part) (hash : List ℕ) (status : ℕ) (bench : B) (out err : SinkCall) : Type 0 where
  pub before : MendedBench B
  pub after : MendedBench B
  pub over : before.inner ≡ bench
  pub hash_is : before.hash ≡ hash
  pub answer : Answer
  pub ends : GiveEnds part (bench_call tells (with_hash before.hash before.writes before.cells (state before.inner))
      (with_hash after.hash after.writes after.cells (state after.inner))) out answer
  pub status_is : status ≡ rescued_status answer
  pub warns : TookAll err warning ⊎ TookPart err warning
