-- A campaign that was made: a call of `program` or `begin` over a bench in memory, a loss of the power, and a call of `resume` or
-- `revert` over what the loss left.
use Rattle.std.specs.Prelude.{ℕ, List, [], ◌∷◌}
use Rattle.bench_model.specs.History.{left}
use Rattle.bench_model.specs.State.{BenchState, file_half}
use Rattle.bench_model.specs.Shown.{bench_of}
use Rattle.bench_model.specs.declared.memory.MemoryBench.{MemoryBench}
use Rattle.outside_io.specs.State.{InputsState, SinkState}
use Rattle.job_text.specs.Files.{IsFree}
use Rattle.flash_session.specs.declared.goal.Goal.{Goal}
use Rattle.command_words.specs.Files.{FilesAsked}
use Rattle.promise.specs.Job.{Job}
use Rattle.promise.specs.Promise.{Call, fault_counts, call_of}
use Rattle.promise.specs.Campaign.{Later, AllFollow, AllKeep, IsFirst, AreSafe}

-- A stop leaves only free files.
abbrev pub LeavesFree : BenchState → Type 0
LeavesFree bench = (file : List ℕ) → left (file_half bench) file → IsFree file

-- The two calls are a campaign: they meet all that is asked of one, the first ended before the power was lost, and they are safe
-- together.
pub record IsCampaign (asked : FilesAsked) (first : Call) (last : Later) : Type 0 where
  pub is_first : IsFirst asked first first.new.moment
  pub keep : AllKeep (last ∷ [])
  pub follow : (job : Job) → AllFollow job first.new first.new.moment (last ∷ [])
  pub safe : AreSafe asked first first.new.moment (last ∷ [])

-- a call over a bench in memory, which took the bench, the inputs and the output from their first states to their second ones
abbrev pub made : MemoryBench → MemoryBench → InputsState → InputsState → SinkState → SinkState → ℕ → Call
made old new inputs inputs' out out' status =
    call_of inputs.stands (bench_of old) (bench_of new) (fault_counts inputs.faults inputs'.faults) (fault_counts out.faults out'.faults) status

-- The first call left some bench, and the loss of the power made another of it, such that the two calls are a campaign.
pub record WereMade (asked : FilesAsked) (goal : Goal) (old new : MemoryBench) (inputs inputs' : InputsState) (out out' : SinkState) (first last : ℕ)
    : Type 0 where
  pub ended : MemoryBench
  pub lost : MemoryBench
  pub taken : InputsState
  pub put : SinkState
  pub campaign : IsCampaign asked (made old ended inputs taken out put first)
      (record { goal = goal; call = made lost new taken inputs' put out' last; end = (bench_of new).moment })
