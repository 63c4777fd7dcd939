-- What a call of `flm_job` answers.
use Rattle.std.specs.Prelude.{◌≡◌, ◌≢◌, ◌⊎◌, ℕ, Bool, List, [], codes}
use Rattle.bench_model.specs.State.{BenchState}
use Rattle.outside_io.specs.State.{SinkState}
use Rattle.report_text.specs.Refusal as refusal
use Rattle.report_text.specs.Lines.{line_of}
use Rattle.command_files.specs.Call.{BenchCall, SinkCall, Answer, done, refused, bench_call, sink_call, IsUntouched}
use Rattle.command_files.specs.Said.{TookNothing, TookAll, TookPart}
use Rattle.job_parts.specs.declared.part.Part.{Part}
use Rattle.job_parts.specs.Parts.{GiveEnds}
use Rattle.flm_job.specs.Words.{AskFor}
use Rattle.flm_job.specs.Rescues.{Rescues}

-- the words ask for a part of the job
pub record OfPart (words : List (List ℕ)) (bench : BenchCall) (out : SinkCall) (answer : Answer) : Type 0 where
  pub part : Part
  pub ask : AskFor words part
  pub ends : GiveEnds part bench out answer

-- the words ask for no part of a job: `usage` is answered, and nothing is done
pub record OfNothing (words : List (List ℕ)) (bench : BenchCall) (out : SinkCall) (answer : Answer) : Type 0 where
  pub none : (part : Part) → AskFor words part → ⊥
  pub answer_is : answer ≡ refused refusal.usage
  pub untouched : IsUntouched bench
  pub prints : TookNothing out

abbrev pub Ends : List (List ℕ) → BenchCall → SinkCall → Answer → Type 0
Ends words bench out answer = OfPart words bench out answer ⊎ OfNothing words bench out answer

-- the line of a refusal on standard error
abbrev pub refused_line : refusal.Refusal → List ℕ
refused_line refusal.usage = codes "flmprog: usage: flm_job JOB [board | flm [1|2] | image hex|srec | snapshot raw]\n"
refused_line r = line_of r

-- the line of a refusal went to `err`, or a beginning of it where the count of `err` rose
abbrev pub SaysLine : SinkCall → refusal.Refusal → Type 0
SaysLine err r = TookAll err (refused_line r) ⊎ TookPart err (refused_line r)

-- With status 0 `err` stays empty. A refusal has its status, and its line goes to `err`, or a beginning of it where the count of
-- `err` rose.
abbrev pub Says : ℕ → SinkCall → Answer → Type 0
Says status err done = (status ≡ 0) × TookNothing err
Says status err (refused r) = (status ≡ refusal.status_of r) × SaysLine err r

-- `Holds` is true where the answer is that the job is damaged
abbrev pub IsDamagedOnly : Answer → Type 0 → Type 0
IsDamagedOnly (refused (refusal.damaged kept found)) Holds = Holds
IsDamagedOnly _ Holds = Unit {0}

-- the refusal is that the job is damaged, and this hash was found
abbrev pub IsFoundIn : refusal.Refusal → List ℕ → Type 0
IsFoundIn (refusal.damaged kept found) hash = hash ≡ found
IsFoundIn _ hash = ⊥

-- What the words ask for was given, or refused. If the job is damaged, the words ask for the listing.
pub record IsAnswered {B : Type 0} (state : B → BenchState) (tells : Bool) (words : List (List ℕ)) (status : ℕ) (bench : B) (out err : SinkCall) : Type 0
  where
    pub after : B
    pub answer : Answer
    pub says : Says status err answer
    -- the status is 0 only where the answer is done
    pub zero : status ≡ 0 → answer ≡ done
    pub ends : Ends words (bench_call tells (state bench) (state after)) out answer
    pub listing : IsDamagedOnly answer (words ≡ [])

-- The job is damaged, and the words ask for a part other than the listing. The part was refused, with the line that says so. Then it was
-- given, though no hash vouches for it.
pub record IsGivenDamaged {B : Type 0} (state : B → BenchState) (tells : Bool) (words : List (List ℕ)) (status : ℕ) (bench : B) (out err : SinkCall)
    : Type 0 where
  pub part : Part
  pub ask : AskFor words part
  pub other : words ≢ []
  pub after : B
  pub kept : List ℕ
  pub found : List ℕ
  pub out_then : SinkState
  pub err_then : SinkState
  pub ends : Ends words (bench_call tells (state bench) (state after)) (sink_call out.tells out.before out_then) (refused (refusal.damaged kept found))
  pub line : SaysLine (sink_call err.tells err.before err_then) (refusal.damaged kept found)
  pub rescues : Rescues state tells part found status after (sink_call out.tells out_then out.after) (sink_call err.tells err_then err.after)

abbrev pub Answers : {B : Type 0} → (B → BenchState) → Bool → List (List ℕ) → ℕ → B → SinkCall → SinkCall → Type 0
Answers state tells words status bench out err =
    IsAnswered state tells words status bench out err ⊎ IsGivenDamaged state tells words status bench out err
