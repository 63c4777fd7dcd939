-- From the steps of `inspect` to its end, with a lemma for each step that may end it.
use Rattle.std.proofs.Common.{◌≡◌, ◌⊎◌, ◌∙◌, sym, ap, subst, refl, inl, inr, ℕ, Bool, true, IsTrue, List, [], ◌∷◌, Err, Some, ◌≢◌}
use Rattle.bench_model.specs.State.{BenchState}
use Rattle.outside_io.specs.State.{SinkState}
use Rattle.flm_descriptor.specs.Flm.{flm_of, IsFlm}
use Rattle.flm_descriptor.specs.Shown.{Shown}
use Rattle.flm_descriptor.specs.declared.fault.FlmFault.{FlmFault}
use Rattle.flm_descriptor.specs.declared.fault.FlmFault.TheVariants as faults
use Rattle.report_text.specs.Inspection.{inspection_text}
use Rattle.report_text.specs.Refusal.{Refusal, out_of_memory, input_fault, flm_refused, output_fault}
use Rattle.report_text.specs.Refused.{of_flm}
use Rattle.command_files.specs.Inputs.{InputsCall, IsFile, NoneFailed}
use Rattle.command_files.specs.Steps.{IsTakeFault}
use Rattle.command_files.specs.Call.{BenchCall, SinkCall, Answer, done, refused, bench_call, sink_call}
use Rattle.command_files.specs.Said.{TookAll, TookPart}
use Rattle.command_files.specs.Answered.{input, store, device, output, yields, DidNothing, on_files}
use Rattle.flm_cli.specs.Inspect.{IsDueForFlm, InspectEnds, has_inspect}
use Rattle.command_files.proofs.AnswerLemmas.{did_nothing, untouched_here, plain_lawful, untaken_lawful, unraised, one_file}

due_yielding : (bench : BenchCall) (out : SinkCall) (answer : Answer) (bytes : List ℕ) → yields answer ≡ true → DidNothing bench out
    → IsDueForFlm bench out answer bytes
due_yielding bench out answer bytes yields did = record { inspected = λ algorithm is. inr yields; refuses = λ fault is. inr (yields, did) }

module _ (tells told : Bool) (b : BenchState) (o : SinkState) (inputs : InputsCall) (flm : List ℕ) where
  pub ends_untaken : (r : Refusal) → IsTakeFault inputs (flm ∷ []) r → InspectEnds flm (bench_call tells b b) inputs (sink_call told o o) (refused r)
  ends_untaken out_of_memory is = record {
    lawful = untaken_lawful tells told b o inputs on_files has_inspect (flm ∷ []) out_of_memory (did_nothing tells told b o) refl (λ name. refl) is;
    untouched = untouched_here tells b;
    comes = record { taken = refl; faults = refl };
    due = λ bytes tells' stands. due_yielding _ _ (refused out_of_memory) bytes refl (did_nothing tells told b o);
  }
  ends_untaken (input_fault name) is = record {
    lawful = untaken_lawful tells told b o inputs on_files has_inspect (flm ∷ []) (input_fault name) (did_nothing tells told b o) refl (λ name. refl) is;
    untouched = untouched_here tells b;
    comes = record { taken = refl; faults = refl };
    due = λ bytes tells' stands. due_yielding _ _ (refused (input_fault name)) bytes refl (did_nothing tells told b o);
  }
  ends_untaken r is = absurd is

  module _ (bytes : List ℕ) (file : IsFile inputs flm bytes) (same : NoneFailed inputs) where
    ends_refused : (fault : FlmFault) → flm_of bytes ≡ Err fault
        → InspectEnds flm (bench_call tells b b) inputs (sink_call told o o) (refused (flm_refused fault))
    ends_refused fault is = record {
      lawful = plain_lawful tells told b o inputs on_files has_inspect (flm ∷ []) (flm_refused fault) (did_nothing tells told b o) refl same refl;
      untouched = untouched_here tells b;
      comes = (record { bytes = bytes; file = file; refuses = is }, record { taken = refl; faults = refl });
      due = λ other tells' stands.
          let its : flm_of other ≡ Err fault = sym (ap flm_of (one_file inputs flm other bytes tells' stands file)) ∙ is in record {
            inspected = λ algorithm says. absurd (cc);
            refuses = λ fault' says. let both : fault ≡ fault' = cc in inl (cc);
          };
    }

    -- the bytes are refused, or there was no memory to read them
    pub ends_unread : (fault : FlmFault) → (fault ≢ faults.OutOfMemory → flm_of bytes ≡ Err fault)
        → InspectEnds flm (bench_call tells b b) inputs (sink_call told o o) (refused (of_flm fault))
    ends_unread faults.OutOfMemory is = ends_untaken out_of_memory same
    ends_unread fault is = ends_refused fault (is (λ wrong. cc))

-- the text of the algorithm was put, or a beginning of it
module _ (tells : Bool) (b : BenchState) (inputs : InputsCall) (out : SinkCall) (flm bytes : List ℕ) (algorithm : Shown) (file : IsFile inputs flm bytes)
    (same : NoneFailed inputs) (is : IsFlm bytes algorithm) where
  says_so : (answer : Answer) → ((fault : FlmFault) → flm_of bytes ≡ Err fault → ⊥) → (answer ≡ done) ⊎ (yields answer ≡ true)
      → (other : List ℕ) → IsTrue inputs.tells → inputs.before.stands flm ≡ Some other → IsDueForFlm (bench_call tells b b) out answer other
  says_so answer none due other tells' stands =
      let are = one_file inputs flm other bytes tells' stands file in
      subst (λ (n : List ℕ). IsDueForFlm (bench_call tells b b) out answer n) are (record {
        inspected = λ algorithm' says. due;
        refuses = λ fault says. absurd (none fault says);
      })

  not_refused : (fault : FlmFault) → flm_of bytes ≡ Err fault → ⊥
  not_refused fault says = cc

  pub ends_done : TookAll out (inspection_text algorithm) → InspectEnds flm (bench_call tells b b) inputs out done
  ends_done prints = record {
    lawful = record {
      kind = tt;
      counts = record {
        inputs_count = unraised inputs.before.faults inputs.after.faults input done same.faults (λ its. cc);
        store_count = unraised b.store_faults b.store_faults store done refl (λ its. cc);
        device_count = unraised b.device_faults b.device_faults device done refl (λ its. cc);
        out_count = unraised out.before.faults out.after.faults output done prints.faults (λ its. cc);
      };
      stands = tt;
      untaken = λ name wrong. absurd (cc);
      none_failed = λ told no. same.failed told;
    };
    untouched = untouched_here tells b;
    comes = record { algorithm = algorithm; is_algorithm = record { bytes = bytes; file = file; says = is }; prints = prints };
    due = says_so done not_refused (inl refl);
  }

  pub ends_cut : TookPart out (inspection_text algorithm) → InspectEnds flm (bench_call tells b b) inputs out (refused output_fault)
  ends_cut prints = record {
    lawful = record {
      kind = refl;
      counts = record {
        inputs_count = unraised inputs.before.faults inputs.after.faults input (refused output_fault) same.faults
            (λ its. let wrong : output ≡ input = cc in cc);
        store_count = unraised b.store_faults b.store_faults store (refused output_fault) refl (λ its. let wrong : output ≡ store = cc in cc);
        device_count = unraised b.device_faults b.device_faults device (refused output_fault) refl (λ its. let wrong : output ≡ device = cc in cc);
        out_count = record { later = prints.later; only = λ its. prints.rose; answered = λ more. refl };
      };
      stands = tt;
      untaken = λ name wrong. absurd (cc);
      none_failed = λ told no. same.failed told;
    };
    untouched = untouched_here tells b;
    comes = record { algorithm = algorithm; is_algorithm = record { bytes = bytes; file = file; says = is }; prints = prints };
    due = says_so (refused output_fault) not_refused (inr refl);
  }
