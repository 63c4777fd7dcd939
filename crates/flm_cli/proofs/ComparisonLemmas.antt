-- From the result of a comparison to the end of the work, for `compare` and `verify`.
use Rattle.std.proofs.Common.{◌≡◌, ◌<◌, ◌+◌, ◌^◌, sym, subst, refl, ℕ, IfOk, Option, Some, None, Result, Ok, Err}
use Rattle.std.specs.Option.{ForSome}
use Rattle.std.specs.Result.{ForOk}
use Rattle.bench_model.specs.declared.bench_fault.DeviceFault.{DeviceFault}
use Rattle.readback.specs.declared.compare.Difference.{Difference}
use Rattle.report_text.specs.Refusal.{device_fault, output_fault, differs}
use Rattle.command_files.specs.Call.{BenchCall, SinkCall, Answer, done, refused}
use Rattle.command_files.specs.Answered.{device, output}
use Rattle.flm_cli.specs.Comparison.{Compares}
use Rattle.device_dump.specs.Looks.{LooksAtCells}
use Rattle.flm_cli.specs.Steps.{FoundBy, TellsFound}
use Rattle.command_files.proofs.AnswerLemmas.{unraised}

module _ (bench : BenchCall) (out : SinkCall) (base : ℕ) (Agrees : Type 0) (Differs : ℕ → ℕ → ℕ → Type 0) where
  pub compares_by : (found : Result (Option Difference) DeviceFault) (answer : Answer) → LooksAtCells bench found → IfOk found (FoundBy base Agrees Differs)
      → TellsFound base found out answer → Compares bench out Agrees Differs answer
  compares_by (Err fault) answer looks holds tells = subst (λ (a : Answer). Compares bench out Agrees Differs a) (sym tells.answer_is) (record {
    found = tt;
    leaves = record { prints = tells.prints; stands = looks.err; file = looks.file; count = looks.count; stops = looks.stops };
    device_count = record { later = looks.cause.later; only = λ its. looks.cause.on_fault refl; answered = λ more. refl };
    out_count = unraised out.before.faults out.after.faults output (refused device_fault) tells.prints.faults (λ is. let same : device ≡ output = cc in cc);
  })
  compares_by (Ok None) done looks holds tells = record {
    found = holds;
    leaves = record { prints = tells; stands = looks.ok; file = looks.file; count = looks.count; stops = looks.stops };
    device_count = unraised bench.before.device_faults bench.after.device_faults device done (looks.cause.on_ok refl) (λ is. cc);
    out_count = unraised out.before.faults out.after.faults output done tells.faults (λ is. cc);
  }
  compares_by (Ok None) (refused output_fault) looks holds tells = record {
    found = holds;
    leaves = record { prints = tells; stands = looks.ok; file = looks.file; count = looks.count; stops = looks.stops };
    device_count = unraised bench.before.device_faults bench.after.device_faults device (refused output_fault) (looks.cause.on_ok refl)
        (λ is. let same : output ≡ device = cc in cc);
    out_count = record { later = tells.later; only = λ its. tells.rose; answered = λ more. refl };
  }
  compares_by (Ok None) (refused r) looks holds tells = absurd tells
  compares_by (Ok (Some d)) answer looks holds tells = subst (λ (a : Answer). Compares bench out Agrees Differs a) (sym tells.answer_is) (record {
    found = holds;
    leaves = record { prints = tells.prints; stands = looks.ok; file = looks.file; count = looks.count; stops = looks.stops };
    device_count = unraised bench.before.device_faults bench.after.device_faults device (refused (differs (base + d.at) d.want d.got)) (looks.cause.on_ok refl)
        (λ is. cc);
    out_count = unraised out.before.faults out.after.faults output (refused (differs (base + d.at) d.want d.got)) tells.prints.faults (λ is. cc);
  })

-- the address of a difference fits 32 bits, where each address of a difference does
pub told_fits : (base : ℕ) (Agrees : Type 0) (Differs : ℕ → ℕ → ℕ → Type 0) (found : Result (Option Difference) DeviceFault)
    → IfOk found (FoundBy base Agrees Differs)
    → ((at wanted byte : ℕ) → Differs at wanted byte → at < 2 ^ 32) → ForOk found (λ difference. ForSome difference (λ d. base + d.at < 2 ^ 32))
told_fits base A D found holds fits = λ difference is d is'.
    let of = subst (λ (r : Result (Option Difference) DeviceFault). IfOk r (FoundBy base A D)) is holds in
    let its = subst (λ (o : Option Difference). FoundBy base A D o) is' of in
    fits (base + d.at) d.want d.got its
