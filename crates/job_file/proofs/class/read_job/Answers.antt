-- `read_job`: its clauses `ok`, `err` and `reads`, and what `read_rest` requires.
use Rattle.std.proofs.Common.{◌∙◌, ℕ, List, Result, length, drop, sym, ap, subst}
use Rattle.std.proofs.lemmas.Result.{IfOk-weaker, IfErr-weaker}
use Rattle.job_text.specs.Reading.{Found, places_of, rest_at}
use Rattle.bench_model.proofs.Moments.{only_reads_then}
use Rattle.job_file.specs.Readers.{Fails, IsJobRest}
use Rattle.job_file.proofs.JobLemmas.{job_head, job_rest, job_body}
use Rattle.job_file.proofs.CountLemmas.{counted_behind}
use Rattle.job_file.proofs.class.read_job.Goals as goal

pub read_rest-requires-clause-told : goal.read_rest-requires-clause-told
read_rest-requires-clause-told g c = λ told. ap (λ (l : List ℕ). length l) (c.read_head.ensures.reads.file told) ∙ c.requires.told told

pub returns-in-Ok-clause-ok : goal.returns-in-Ok-clause-ok
returns-in-Ok-clause-ok g c = λ told.
    let file = (g.B.Bench.state c.args.bench.now).file in
    let h = c.in-Ok.head in
    IfOk-weaker c.read_rest.result _ _
    (λ job rest. job_body job c.args.format file h (c.in-Ok.ensures.text told)
    (subst (λ (f : List ℕ). IsJobRest job c.args.format f h) (c.read_head.ensures.reads.file told) rest)) (c.read_rest.ensures.ok told)

pub returns-in-Ok-clause-err : goal.returns-in-Ok-clause-err
returns-in-Ok-clause-err g c = λ told.
    let file = (g.B.Bench.state c.args.bench.now).file in
    let h = c.in-Ok.head in
    let front = (places_of c.args.format).front in
    IfErr-weaker c.read_rest.result _ _
    (λ e err. subst (λ (r : Result Found ℕ). Fails e r) (sym
    (job_rest c.args.whole c.args.format (drop 1 file) h (drop front file) (c.in-Ok.ensures.said told)))
    (subst (λ (f : List ℕ). Fails e (rest_at c.args.whole c.args.format h (drop front f))) (c.read_head.ensures.reads.file told) err))
    (c.read_rest.ensures.err told)

pub returns-in-Err-clause-err : goal.returns-in-Err-clause-err
returns-in-Err-clause-err g c = λ told. job_head c.args.whole c.args.format (drop 1 (g.B.Bench.state c.args.bench.now).file) c.in-Err.fault
    (c.in-Err.ensures.said told)

pub returns-in-Ok-clause-reads : goal.returns-in-Ok-clause-reads
returns-in-Ok-clause-reads g c = only_reads_then c.read_head.ensures.reads c.read_rest.ensures.reads

pub returns-in-Ok-clause-counted : goal.returns-in-Ok-clause-counted
returns-in-Ok-clause-counted g c = counted_behind c.in-Ok.ensures.counted c.read_rest.ensures.counted
