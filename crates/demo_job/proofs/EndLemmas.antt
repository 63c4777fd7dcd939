-- The rules for the answers of a demonstration, as the top call uses them for `demo`.
use Rattle.std.proofs.Common.{◌≡◌, sym, subst, refl, arith, inl, inr, ◌<◌, ◌≤◌, ⊎_elim, ℕ, List, [], ◌^◌, ◌-◌}
use Rattle.faults.specs.Counts.{Rose}
use Rattle.report_text.specs.Refusal.{out_of_memory, no_job, not_a_job, damaged, cells_differ, store_fault, device_fault, output_fault, call_failed, mismatch}
use Rattle.command_files.specs.Inputs.{InputsCall, TakesNothing}
use Rattle.command_files.specs.Call.{BenchCall, SinkCall, IsUntouched, Answer, done, refused}
use Rattle.command_files.specs.Said.{TookPart}
use Rattle.command_files.specs.Answered.{input, store, device, output, on_job_file, on_own_bench, IsOf, StandsEarly, EndsLawfully}
use Rattle.command_files.proofs.AnswerLemmas.{unraised}
use Rattle.demo_job.specs.Run.{silence}
use Rattle.demo_job.specs.Command.{Prints, Tells, resumed_in, TellsLawfully, DemoSays, SaysLawfully, DemoEnds}
use Rattle.job_commands.specs.GoOn.{has_resume}

-- A resume ended, and all its lines went out.

own_stands : (own : BenchCall) (out : SinkCall) (answer : Answer) → IsOf has_resume answer → StandsEarly on_job_file own silence answer
    → StandsEarly on_own_bench own out answer
own_stands own out done kind stands = tt
own_stands own out (refused out_of_memory) kind stands = tt
own_stands own out (refused no_job) kind stands = stands.reads
own_stands own out (refused (not_a_job at)) kind stands = stands.reads
own_stands own out (refused (damaged kept found)) kind stands = stands.reads
own_stands own out (refused (cells_differ wanted found)) kind stands = stands.reads
own_stands own out (refused store_fault) kind stands = tt
own_stands own out (refused device_fault) kind stands = tt
own_stands own out (refused output_fault) kind stands = tt
own_stands own out (refused (call_failed number call end)) kind stands = tt
own_stands own out (refused (mismatch at wanted found)) kind stands = tt
own_stands own out (refused other) kind stands = absurd (cc)

not_risen : Rose 0 0 → ⊥
not_risen rose = ⊎_elim (λ (less : 0 < 0). omega (arith, less)) (λ (full : 2 ^ 64 - 1 ≤ 0). omega (arith, full)) rose

own_lawful : (own : BenchCall) (inputs : InputsCall) (out : SinkCall) (answer : Answer) → EndsLawfully on_job_file own inputs silence has_resume [] answer
    → out.after.faults ≡ out.before.faults → EndsLawfully on_own_bench own inputs out has_resume [] answer
own_lawful own inputs out answer is same = record {
  kind = is.kind;
  counts = record {
    inputs_count = is.counts.inputs_count;
    store_count = is.counts.store_count;
    device_count = is.counts.device_count;
    out_count = unraised out.before.faults out.after.faults output answer same (λ its. not_risen (is.counts.out_count.only its));
  };
  stands = own_stands own out answer is.kind is.stands;
  untaken = is.untaken;
  none_failed = is.none_failed;
}

-- The bench of the caller.
module _ (bench : BenchCall) (inputs : InputsCall) (out : SinkCall) (untouched : IsUntouched bench) (takes : TakesNothing inputs) where
  unbegun_lawful : out.after.faults ≡ out.before.faults → EndsLawfully on_own_bench bench inputs out has_resume [] (refused out_of_memory)
  unbegun_lawful same = record {
    kind = refl;
    counts = record {
      inputs_count = unraised inputs.before.faults inputs.after.faults input (refused out_of_memory) takes.faults (λ its. cc);
      store_count = unraised bench.before.store_faults bench.after.store_faults store (refused out_of_memory) untouched.file.faults (λ its. cc);
      device_count = unraised bench.before.device_faults bench.after.device_faults device (refused out_of_memory) untouched.cells.faults (λ its. cc);
      out_count = unraised out.before.faults out.after.faults output (refused out_of_memory) same (λ its. cc);
    };
    stands = tt;
    untaken = λ name is. absurd (cc);
    none_failed = λ told no. takes.failed;
  }

  cut_lawful : (text : List ℕ) → TookPart out text → EndsLawfully on_own_bench bench inputs out has_resume [] (refused output_fault)
  cut_lawful text part = record {
    kind = refl;
    counts = record {
      inputs_count = unraised inputs.before.faults inputs.after.faults input (refused output_fault) takes.faults (λ its. let wrong : output ≡ input = cc in cc);
      store_count = unraised bench.before.store_faults bench.after.store_faults store (refused output_fault) untouched.file.faults
          (λ its. let wrong : output ≡ store = cc in cc);
      device_count = unraised bench.before.device_faults bench.after.device_faults device (refused output_fault) untouched.cells.faults
          (λ its. let wrong : output ≡ device = cc in cc);
      out_count = record { later = part.later; only = λ its. part.rose; answered = λ more. refl };
    };
    stands = tt;
    untaken = λ name is. absurd (cc);
    none_failed = λ told no. takes.failed;
  }

  tells_lawfully : (seed : ℕ) (answer : Answer) (tells : Tells seed out answer) (prints : Prints out tells.demo answer)
      → TellsLawfully seed bench inputs out answer tells prints
  tells_lawfully seed answer tells (inl whole) =
      own_lawful (resumed_in tells) inputs out answer
      (subst (λ (a : Answer). EndsLawfully on_job_file (resumed_in tells) inputs silence has_resume [] a) (sym whole.0)
      (tells.is_shown.shows.resumes inputs takes).lawful) whole.1.faults
  tells_lawfully seed answer tells (inr cut) = subst (λ (a : Answer). EndsLawfully on_own_bench bench inputs out has_resume [] a) (sym cut.0)
      (cut_lawful _ cut.1)

  says_lawfully : (seed : ℕ) (answer : Answer) (says : DemoSays seed out answer) → SaysLawfully seed bench inputs out answer says
  says_lawfully seed answer (inl unbegun) = subst (λ (a : Answer). EndsLawfully on_own_bench bench inputs out has_resume [] a) (sym unbegun.answer_is)
      (unbegun_lawful unbegun.prints.faults)
  says_lawfully seed answer (inr tells) = tells_lawfully seed answer tells tells.prints

  pub demo_ends : (seed : ℕ) (answer : Answer) → DemoSays seed out answer → DemoEnds seed bench inputs out answer
  demo_ends seed answer says = record { untouched = untouched; takes = takes; says = says; lawful = says_lawfully seed answer says }
