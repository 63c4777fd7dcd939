-- `read_run`: its clauses `ok`, `err`, `reads` and `counted`, and what `lay_run` requires.
use Rattle.std.proofs.Common.{ℕ, List, length, drop, ap, arith}
use Rattle.job_text.specs.Reading.{run_at}
use Rattle.bench_model.proofs.Moments.{only_reads_then}
use Rattle.job_file.proofs.ImageLemmas.{run_added, no_verdict}
use Rattle.job_file.proofs.CountLemmas.{counted_behind}
use Rattle.job_file.proofs.image.read_run.Goals as goal

pub lay_run-requires-clause-told : goal.lay_run-requires-clause-told
lay_run-requires-clause-told g c = λ told. omega (
  arith,
  c.in-Ok.ensures.placed.within,
  c.requires.told told,
  ap (λ (l : List ℕ). length l) (c.read_run_head.ensures.reads.file told),
)

pub lay_run-requires-clause-behind : goal.lay_run-requires-clause-behind
lay_run-requires-clause-behind g c = λ k lt. let ends = c.requires.behind k lt in omega (arith, ends, c.in-Ok.ensures.placed.rises)

pub returns-in-Ok-lay_run-clause-ok : goal.returns-in-Ok-lay_run-clause-ok
returns-in-Ok-lay_run-clause-ok g c =
    run_added g.B.Bench.tells (g.B.Bench.state c.args.bench.now) (g.B.Bench.state c.read_run_head.new.bench) c.args.whole c.args.regions.now c.args.low
    c.args.at c.in-Ok.place c.in-Ok.len c.args.image.now c.lay_run.new.image
    c.read_run_head.ensures.reads.file c.in-Ok.ensures.said c.in-Ok.ensures.text c.in-Ok.ensures.placed c.in-Ok-lay_run.ensures.ok

pub returns-in-Err-lay_run-clause-err : goal.returns-in-Err-lay_run-clause-err
returns-in-Err-lay_run-clause-err g c = λ told.
    no_verdict c.in-Err-lay_run.fault (run_at c.args.whole c.args.regions.now c.args.low (drop c.args.at (g.B.Bench.state c.args.bench.now).file))
    c.in-Err-lay_run.ensures.fault

pub returns-in-Err-clause-err : goal.returns-in-Err-clause-err
returns-in-Err-clause-err g c = λ told. c.in-Err.ensures.said told

pub returns-in-Err-lay_run-clause-reads : goal.returns-in-Err-lay_run-clause-reads
returns-in-Err-lay_run-clause-reads g c = only_reads_then c.read_run_head.ensures.reads c.lay_run.ensures.reads

pub returns-in-Ok-lay_run-clause-reads : goal.returns-in-Ok-lay_run-clause-reads
returns-in-Ok-lay_run-clause-reads g c = only_reads_then c.read_run_head.ensures.reads c.lay_run.ensures.reads

pub returns-in-Err-lay_run-clause-counted : goal.returns-in-Err-lay_run-clause-counted
returns-in-Err-lay_run-clause-counted g c = counted_behind c.in-Ok.ensures.counted c.in-Err-lay_run.ensures.counted

pub returns-in-Ok-lay_run-clause-counted : goal.returns-in-Ok-lay_run-clause-counted
returns-in-Ok-lay_run-clause-counted g c = counted_behind c.in-Ok.ensures.counted c.in-Ok-lay_run.ensures.counted
