-- What `inspect FLM` answers.
use Rattle.std.specs.Prelude.{◌≡◌, IsTrue, ℕ, List, [], ◌∷◌, Some, Ok, Err, Bool, true, false}
use Rattle.flm_descriptor.specs.Flm.{flm_of, IsFlm}
use Rattle.flm_descriptor.specs.Shown.{Shown}
use Rattle.flm_descriptor.specs.declared.fault.FlmFault.{FlmFault}
use Rattle.report_text.specs.Inspection.{inspection_text}
use Rattle.report_text.specs.Refusal.{out_of_memory, input_fault, flm_refused, output_fault, Refusal}
use Rattle.command_files.specs.Inputs.{InputsCall, IsFile}
use Rattle.command_files.specs.Call.{BenchCall, SinkCall, Answer, done, refused, IsUntouched}
use Rattle.command_files.specs.Said.{TookNothing, TookAll, TookPart}
use Rattle.command_files.specs.Answered.{IsUnless, Refuses, DidNothing, EndsLawfully, on_files}

-- The bytes under the name are the FLM file of this algorithm.
pub record IsAlgorithm (inputs : InputsCall) (flm : List ℕ) (algorithm : Shown) : Type 0 where
  pub bytes : List ℕ
  pub file : IsFile inputs flm bytes
  pub says : IsFlm bytes algorithm

-- The bytes under the name are the FLM file of no algorithm, for this reason.
pub record IsNoAlgorithm (inputs : InputsCall) (flm : List ℕ) (fault : FlmFault) : Type 0 where
  pub bytes : List ℕ
  pub file : IsFile inputs flm bytes
  pub refuses : flm_of bytes ≡ Err fault

-- the whole description of the algorithm went to `out`
pub record IsInspected (inputs : InputsCall) (out : SinkCall) (flm : List ℕ) : Type 0 where
  pub algorithm : Shown
  pub is_algorithm : IsAlgorithm inputs flm algorithm
  pub prints : TookAll out (inspection_text algorithm)

-- a beginning of the description of the algorithm went to `out`, and the count of `out` rose
pub record IsInspectedInPart (inputs : InputsCall) (out : SinkCall) (flm : List ℕ) : Type 0 where
  pub algorithm : Shown
  pub is_algorithm : IsAlgorithm inputs flm algorithm
  pub prints : TookPart out (inspection_text algorithm)

-- When each answer of `inspect` comes, and what goes to `out` with it.
abbrev pub ComesOfFlm : InputsCall → SinkCall → List ℕ → Answer → Type 0
ComesOfFlm inputs out flm done = IsInspected inputs out flm
ComesOfFlm inputs out flm (refused output_fault) = IsInspectedInPart inputs out flm
ComesOfFlm inputs out flm (refused (flm_refused fault)) = IsNoAlgorithm inputs flm fault × TookNothing out
ComesOfFlm inputs out flm (refused out_of_memory) = TookNothing out
ComesOfFlm inputs out flm (refused (input_fault name)) = TookNothing out
ComesOfFlm inputs out flm (refused _) = ⊥

-- The other direction: what `inspect` must answer where the file under the name has these bytes.
pub record IsDueForFlm (bench : BenchCall) (out : SinkCall) (answer : Answer) (bytes : List ℕ) : Type 0 where
  pub inspected : (algorithm : Shown) → flm_of bytes ≡ Ok algorithm → IsUnless answer done
  pub refuses : (fault : FlmFault) → flm_of bytes ≡ Err fault → Refuses (DidNothing bench out) answer (flm_refused fault)

-- Which refusals `inspect` has.
abbrev pub has_inspect : Refusal → Bool
has_inspect out_of_memory = true
has_inspect (input_fault name) = true
has_inspect (flm_refused fault) = true
has_inspect output_fault = true
has_inspect _ = false

-- The work of `inspect`: all but the status and the line on `err`. The bench is as it was.
pub record InspectEnds (flm : List ℕ) (bench : BenchCall) (inputs : InputsCall) (out : SinkCall) (answer : Answer) : Type 0 where
  pub lawful : EndsLawfully on_files bench inputs out has_inspect (flm ∷ []) answer
  pub untouched : IsUntouched bench
  pub comes : ComesOfFlm inputs out flm answer
  pub due : (bytes : List ℕ) → IsTrue inputs.tells → inputs.before.stands flm ≡ Some bytes → IsDueForFlm bench out answer bytes
