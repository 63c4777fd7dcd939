-- `read_run_head`: its clauses `said` and `text`.
use Rattle.std.proofs.Common.{◌∙◌, drop, sym, arith, refl}
use Rattle.std.proofs.lemmas.List.{length-drop}
use Rattle.std.proofs.lemmas.Result.{IfOk-weaker}
use Rattle.bench_model.proofs.Moments.{only_reads_here}
use Rattle.bench_model.proofs.CountLemmas.{none_counted}
use Rattle.job_file.proofs.StepLemmas.{run_short}
use Rattle.job_file.proofs.CountLemmas.{caused, none_more, stayed}
use Rattle.job_file.proofs.image.read_run_head.Goals as goal

pub returns-then-left-lt-HEAD-clause-said : goal.returns-then-left-lt-HEAD-clause-said
returns-then-left-lt-HEAD-clause-said g c = λ told.
    let file = (g.B.Bench.state c.args.bench.now).file in
    run_short c.args.whole c.args.regions.now c.args.low (drop c.args.at file) (omega (arith, c.requires.told told, length-drop c.args.at file))

pub returns-in-Ok-clause-said : goal.returns-in-Ok-clause-said
returns-in-Ok-clause-said g c = λ told. c.judge_run.ensures.said (g.B.Bench.state c.args.bench.now).file (c.requires.told told) (c.in-Ok.ensures.does.ok told)

pub returns-in-Ok-clause-text : goal.returns-in-Ok-clause-text
returns-in-Ok-clause-text g c = λ told. IfOk-weaker c.judge_run.result _ _ (λ x is. sym (c.in-Ok.ensures.does.ok told) ∙ is) c.judge_run.ensures.text

pub returns-then-left-lt-HEAD-clause-reads : goal.returns-then-left-lt-HEAD-clause-reads
returns-then-left-lt-HEAD-clause-reads g c = only_reads_here _ _

pub returns-in-Err-clause-counted : goal.returns-in-Err-clause-counted
returns-in-Err-clause-counted g c = caused c.in-Err.ensures.does.cause

pub returns-in-Ok-clause-counted : goal.returns-in-Ok-clause-counted
returns-in-Ok-clause-counted g c = none_more _ _ _ c.judge_run.ensures.no_store (stayed c.in-Ok.ensures.does.cause)

pub returns-then-left-lt-HEAD-clause-counted : goal.returns-then-left-lt-HEAD-clause-counted
returns-then-left-lt-HEAD-clause-counted g c = none_counted _ _ refl
