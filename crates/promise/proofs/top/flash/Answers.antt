-- `flash`: each of its clauses asks that the call which is made is the one that is answered, part by part.
use Rattle.std.proofs.Common.{◌≡◌, ℕ, Bool, Option, arith, Some, None}
use Rattle.outside_io.specs.State.{SinkState}
use Rattle.command_words.specs.Files.{Command}
use Rattle.command_files.specs.Inputs.{InputsCall}
use Rattle.command_files.specs.Call.{BenchCall, SinkCall, call_of, sink_call}
use Rattle.flm_cli.specs.Answers.{Answers}
use Rattle.promise.proofs.TopLemmas.{answered, kept, completed, resumed, unfit, forwarded, kept_to_plan}
use Rattle.promise.proofs.top.flash.Goals as goal

-- an answer stays one for another stream of errors, if both show their contents or neither does
heard : {n : ℕ} {bench : BenchCall} {inputs : InputsCall} {out : SinkCall} {tells tells' : Bool} {e f : SinkState} (asked : Option Command) → tells ≡ tells'
    → Answers (call_of n bench inputs out (sink_call tells e f)) asked → Answers (call_of n bench inputs out (sink_call tells' e f)) asked
heard {n} {bench} {inputs} {out} {tells} {tells'} {e} {f} asked same it =
    coe 0 1 (k. Answers (call_of n bench inputs out (sink_call (same k) e f)) asked) it

-- streams with the same count of faults and the same contents
same_sink : {e f : SinkState} → e.faults ≡ f.faults → e.taken ≡ f.taken → e ≡ f
same_sink faults taken = λ k. record { faults = faults k; taken = taken k }

pub returns-clause-promise : goal.returns-clause-promise
returns-clause-promise g c = λ told told_files command asks.
    kept command told told_files (g.met.B.Bench.bytes c.args.bench.now told).0
    (grind arith) (grind arith) (grind arith) (grind arith)
    (grind arith) (grind arith) (grind arith) (grind arith)
    (c.flmprog.ensures (Some command) asks)

pub returns-clause-complete : goal.returns-clause-complete
returns-clause-complete g c = λ told told_files command asks.
    completed command c.args.words.now told told_files asks
    (grind arith) (grind arith) (grind arith) (grind arith)
    (grind arith) (grind arith) (grind arith) (grind arith)
    (c.flmprog.ensures (Some command) asks)

pub returns-clause-resumes : goal.returns-clause-resumes
returns-clause-resumes g c = λ told told_files command asks.
    resumed command told told_files (g.met.B.Bench.bytes c.args.bench.now told).0
    (grind arith) (grind arith) (grind arith) (grind arith)
    (grind arith) (grind arith) (grind arith) (grind arith)
    (c.flmprog.ensures (Some command) asks)

pub returns-clause-answers : goal.returns-clause-answers
returns-clause-answers g c = λ asked given. heard asked (grind arith) (
    answered asked
    (grind arith) (grind arith) (grind arith) (grind arith)
    (grind arith) (grind arith) (grind arith) (same_sink (omega arith) (grind arith))
    (same_sink (omega arith) (grind arith)) (c.flmprog.ensures asked given))

pub returns-clause-usage : goal.returns-clause-usage
returns-clause-usage g c = λ none. let is = unfit _ (c.flmprog.ensures None none) in grind arith

pub returns-clause-forward : goal.returns-clause-forward
returns-clause-forward g c = λ told command asks.
    forwarded command told (g.met.B.Bench.bytes c.args.bench.now told).0 (grind arith) (grind arith) (grind arith) (c.flmprog.ensures (Some command) asks)

pub returns-clause-local : goal.returns-clause-local
returns-clause-local g c = λ told told_files command asks.
    kept_to_plan command told told_files (g.met.B.Bench.bytes c.args.bench.now told).0
    (grind arith) (grind arith) (grind arith) (grind arith)
    (grind arith) (grind arith) (grind arith) (grind arith)
    (grind arith) (grind arith) (c.flmprog.ensures (Some command) asks)
