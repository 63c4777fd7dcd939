-- Which refusals each step has: a command has the refusals of its steps, and no other.
use Rattle.std.proofs.Common.{◌≡◌, refl, true, ℕ}
use Rattle.std.proofs.lemmas.Bool.{false≢true}
use Rattle.bench_model.specs.Counted.{is_store_fault}
use Rattle.job_file.specs.declared.fault.OpenFault.TheVariants as opening
use Rattle.job_file.specs.declared.fault.BeginFault.{BeginFault}
use Rattle.job_file.specs.declared.fault.BeginFault.TheVariants as beginning
use Rattle.job_file.specs.Counted.{begin_fault}
use Rattle.job_file.specs.Faults.{IsSoundBegin}
use Rattle.flash_session.specs.Opened.{IsSoundSession, session_fault}
use Rattle.flash_session.specs.declared.fault.SessionFault.{SessionFault}
use Rattle.flash_session.specs.declared.fault.SessionFault.TheVariants as session
use Rattle.flash_session.specs.declared.fault.SurveyFault.{SurveyFault}
use Rattle.flash_session.specs.declared.fault.SurveyFault.TheVariants as survey
use Rattle.report_text.specs.Refusal.{Refusal, out_of_memory}
use Rattle.report_text.specs.Refusal.{no_job, store_fault, device_fault, output_fault, call_failed}
use Rattle.report_text.specs.Refusal.{mismatch}
use Rattle.command_files.specs.Call.{BenchCall, SinkCall, Answer, done, refused}
use Rattle.command_files.specs.Answered.{StandsEarly, IsOf, on_job_file}
use Rattle.job_commands.specs.Answers.{is_of_work, IsSound}
use Rattle.job_commands.specs.Steps.{has_script, has_start, has_alone, has_work, begun}
use Rattle.job_commands.specs.Refused.{of_session, of_survey, of_begin}
use Rattle.job_commands.specs.Program.{has_program}
use Rattle.job_commands.specs.Begin.{has_begin}
use Rattle.job_commands.specs.GoOn.{has_resume}

-- an answer of the script is one of the whole work
pub script_kind : (answer : Answer) → IsOf has_script answer → IsOf has_resume answer
script_kind done kind = tt
script_kind (refused store_fault) kind = refl
script_kind (refused r) kind = cc

-- a refusal of the script comes late
pub script_stands : (bench : BenchCall) (out : SinkCall) (answer : Answer) → IsOf has_script answer → StandsEarly on_job_file bench out answer
script_stands bench out done kind = tt
script_stands bench out (refused store_fault) kind = tt
script_stands bench out (refused device_fault) kind = tt
script_stands bench out (refused output_fault) kind = tt
script_stands bench out (refused (call_failed number call end)) kind = tt
script_stands bench out (refused (mismatch at wanted found)) kind = tt
script_stands bench out (refused r) kind = absurd (cc)

-- a refusal before the script is sound: its hashes, or its numbers of cells, differ
pub session_sound : (count : ℕ) (fault : SessionFault) → IsSoundSession count fault → IsSound (refused (of_session fault))
session_sound count (session.Open (opening.Damaged kept found)) sound = sound
session_sound count (session.Open (opening.CellsDiffer said found)) sound = sound.1
session_sound count fault sound = tt

pub survey_sound : (fault : SurveyFault) → IsSound (refused (of_survey fault))
survey_sound survey.OutOfMemory = tt
survey_sound fault = tt

pub begin_sound : (size count : ℕ) (fault : BeginFault) → IsSoundBegin size count fault → IsSound (refused (of_begin fault))
begin_sound size count (beginning.CellsDiffer said found) sound = sound.2
begin_sound size count (beginning.Damaged kept found) sound = sound
begin_sound size count fault sound = tt

-- no refusal of the beginning comes after a job was begun
pub start_before : (r : Refusal) → IsOf has_start (refused r) → is_of_work (refused r) ≡ true → ⊥
start_before output_fault kind its = cc
start_before r kind its = cc

pub begun_sound : (answer : Answer) → IsSound answer → IsSound (begun answer)
begun_sound done sound = tt
begun_sound (refused no_job) sound = tt
begun_sound (refused r) sound = sound

pub session_kind : (fault : SessionFault) → IsOf has_resume (refused (of_session fault))
session_kind (session.Open opening.OutOfMemory) = refl
session_kind fault = refl

pub survey_kind : (fault : SurveyFault) → IsOf has_resume (refused (of_survey fault))
survey_kind survey.OutOfMemory = refl
survey_kind fault = refl

pub begin_kind : (fault : BeginFault) → IsOf has_start (refused (of_begin fault))
begin_kind beginning.OutOfMemory = refl
begin_kind fault = refl

-- an answer of the work that follows, after a job was begun
pub begun_kind : (answer : Answer) → IsOf has_resume answer → IsOf has_work (begun answer)
begun_kind done kind = tt
begun_kind (refused out_of_memory) kind = refl
begun_kind (refused r) kind = cc

-- a refusal of the beginning is one of a step that begins a job and prints that it did
pub start_alone : (r : Refusal) → IsOf has_start (refused r) → IsOf has_alone (refused r)
start_alone output_fault kind = refl
start_alone r kind = kind

pub start_work : (r : Refusal) → IsOf has_start (refused r) → IsOf has_work (refused r)
start_work output_fault kind = refl
start_work (call_failed number call end) kind = refl
start_work (mismatch at wanted found) kind = refl
start_work r kind = kind

pub alone_work : (answer : Answer) → IsOf has_alone answer → IsOf has_work answer
alone_work done kind = tt
alone_work (refused output_fault) kind = refl
alone_work (refused (call_failed number call end)) kind = refl
alone_work (refused (mismatch at wanted found)) kind = refl
alone_work (refused r) kind = kind

-- an answer of the work is one of the command
pub program_kind : (answer : Answer) → IsOf has_work answer → IsOf has_program answer
program_kind done kind = tt
program_kind (refused out_of_memory) kind = refl
program_kind (refused r) kind = cc

pub begin_command : (answer : Answer) → IsOf has_alone answer → IsOf has_begin answer
begin_command done kind = tt
begin_command (refused out_of_memory) kind = refl
begin_command (refused r) kind = cc

-- `program` has each refusal of `begin`
pub begin_of_program : (r : Refusal) → has_begin r ≡ true → has_program r ≡ true
begin_of_program out_of_memory is = refl
begin_of_program r is = cc

-- the fault of the job file is answered as `store_fault`
pub session_file_fault : (fault : SessionFault) → is_store_fault (session_fault fault) ≡ true → of_session fault ≡ store_fault
session_file_fault session.OutOfMemory is = absurd (false≢true is)
session_file_fault (session.Open opening.StoreFault) is = refl
session_file_fault (session.Open fault) is = absurd (false≢true is)
session_file_fault session.DeviceFault is = absurd (false≢true is)

pub begin_file_fault : (fault : BeginFault) → is_store_fault (begin_fault fault) ≡ true → of_begin fault ≡ store_fault
begin_file_fault beginning.StoreFault is = refl
begin_file_fault beginning.DeviceFault is = absurd (false≢true is)
begin_file_fault fault is = absurd (false≢true is)
