-- What words ask for, and calls that end before any work.
use Rattle.std.proofs.Common.{◌≡◌, refl, inl, inr, subst, arith, ℕ, Bool, IsTrue, List, length, Option, Some, None}
use Rattle.bench_model.specs.History.{left}
use Rattle.bench_model.specs.State.{BenchState, cells_half, SameOutside}
use Rattle.bench_model.proofs.Moments.{only_reads_here}
use Rattle.outside_io.specs.State.{InputsState, SinkState}
use Rattle.flash_session.specs.declared.goal.Goal.TheVariants.{New, Old}
use Rattle.report_text.specs.Refusal.{out_of_memory}
use Rattle.report_text.specs.Refusal as refusal
use Rattle.command_words.specs.Words.{Command, program, begin, resume, revert, plan, verify, compare, status, inspect, dump, demo, Asked}
use Rattle.command_words.proofs.WordsLemmas.{one_asked}
use Rattle.command_files.specs.Inputs.{InputsCall, TakesNothing, NoneFailed, inputs_call}
use Rattle.command_files.specs.Call.{BenchCall, SinkCall, Answer, refused, bench_call, sink_call}
use Rattle.command_files.proofs.AnswerLemmas.{did_nothing}
use Rattle.job_commands.proofs.GoOnLemmas as go_on
use Rattle.job_commands.proofs.ProgramLemmas.{program_untaken, begin_untaken}
use Rattle.job_file.specs.declared.fault.OpenFault.TheVariants as opening
use Rattle.job_status.specs.Status.{StatusEnds}
use Rattle.job_status.proofs.StatusLemmas.{ends_refused}
use Rattle.demo_job.specs.Command.{DemoEnds}
use Rattle.demo_job.proofs.EndLemmas.{demo_ends}
use Rattle.device_dump.proofs.DumpLemmas as dumping
use Rattle.flm_cli.specs.Answers.{EndsUnfit, EndsOf}
use Rattle.flm_cli.proofs.CompareLemmas as comparison
use Rattle.flm_cli.proofs.InspectLemmas as inspection
use Rattle.flm_cli.proofs.PlanLemmas as planning
use Rattle.flm_cli.proofs.VerifyLemmas as verification

-- the work of the command that was read is the work of the command that the words ask for
pub ends_as : (words : List (List ℕ)) (read asked : Option Command) (bench : BenchCall) (inputs : InputsCall) (out : SinkCall) (answer : Answer)
    → Asked words read → Asked words asked → EndsOf read bench inputs out answer → EndsOf asked bench inputs out answer
ends_as words read asked bench inputs out answer given_read given ends =
    subst (λ (a : Option Command). EndsOf a bench inputs out answer) (one_asked words read asked given_read given) ends

-- No object was called.
module _ (tells given told : Bool) (b : BenchState) (i : InputsState) (o : SinkState) where
  abbrev Bench : BenchCall
  Bench = bench_call tells b b

  abbrev Inputs : InputsCall
  Inputs = inputs_call given i i

  abbrev Out : SinkCall
  Out = sink_call told o o

  took_nothing : TakesNothing Inputs
  took_nothing = record { stands = λ name. refl; faults = refl; failed = refl }

  none_failed : NoneFailed Inputs
  none_failed = record { faults = refl; failed = λ told. refl }

  pub unfit : EndsUnfit Bench Inputs Out (refused refusal.usage)
  unfit = record { answer_is = inl refl; did = did_nothing tells told b o; takes = took_nothing }

  -- `status` runs out of memory before it looks at the file
  status_unread : StatusEnds Bench Inputs Out (refused out_of_memory)
  status_unread =
      ends_refused tells b b Inputs took_nothing (only_reads_here tells b) told o opening.OutOfMemory (λ is. cc)
      (record { later = omega arith; on_fault = λ is. cc; on_other = λ is. refl }) (λ its. tt) tt

  -- `demo` runs out of memory before it runs
  demo_unbegun : (seed : ℕ) → DemoEnds seed Bench Inputs Out (refused out_of_memory)
  demo_unbegun seed =
      let did = did_nothing tells told b o in
      demo_ends Bench Inputs Out did.untouched took_nothing seed (refused out_of_memory) (inl (record { answer_is = refl; prints = did.prints }))

  -- memory runs out for the words, whatever they ask for
  pub ends_unread : (IsTrue tells → length b.cells ≡ b.cell_count) → (IsTrue tells → (x : List ℕ) → left (cells_half b) x → SameOutside b.operation b.cells x)
      → (words : List (List ℕ)) → (asked : Option Command) → Asked words asked → EndsOf asked Bench Inputs Out (refused out_of_memory)
  ends_unread many exact words None given = record { answer_is = inr refl; did = did_nothing tells told b o; takes = took_nothing }
  ends_unread many exact words (Some (program files)) given = program_untaken tells told b o Inputs files many exact out_of_memory none_failed
  ends_unread many exact words (Some (begin files)) given = begin_untaken tells told b o Inputs files many exact out_of_memory none_failed
  ends_unread many exact words (Some resume) given = go_on.ends_unread tells told b o Inputs New many exact took_nothing
  ends_unread many exact words (Some revert) given = go_on.ends_unread tells told b o Inputs Old many exact took_nothing
  ends_unread many exact words (Some (plan files)) given = planning.ends_untaken tells told b o Inputs files out_of_memory none_failed
  ends_unread many exact words (Some (verify files)) given = verification.ends_untaken tells told b o Inputs files out_of_memory none_failed
  ends_unread many exact words (Some (compare image)) given = comparison.ends_untaken tells told b o Inputs image out_of_memory none_failed
  ends_unread many exact words (Some status) given = status_unread
  ends_unread many exact words (Some (inspect flm)) given = inspection.ends_untaken tells told b o Inputs flm out_of_memory none_failed
  ends_unread many exact words (Some (dump form board)) given = dumping.ends_untaken form board tells told b o Inputs out_of_memory none_failed
  ends_unread many exact words (Some (demo seed)) given = demo_unbegun seed
