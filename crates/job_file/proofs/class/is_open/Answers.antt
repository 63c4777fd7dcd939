-- `is_open`: its clause `gives`.
use Rattle.std.proofs.Common.{arith}
use Rattle.bench_model.proofs.Moments.{only_reads_here}
use Rattle.job_file.proofs.FileLemmas.{free_short}
use Rattle.job_file.proofs.JobLemmas.{gate_open, gate_shut}
use Rattle.job_file.proofs.CountLemmas.{stayed, caused}
use Rattle.job_file.proofs.class.is_open.Goals as goal

pub returns-then-whole-le1-clause-gives : goal.returns-then-whole-le1-clause-gives
returns-then-whole-le1-clause-gives g c = λ told. free_short (g.B.Bench.state c.args.bench.now).file (omega (arith, c.requires.told told))

pub returns-then-gate-clause-gives : goal.returns-then-gate-clause-gives
returns-then-gate-clause-gives g c = λ told. gate_open (g.B.Bench.state c.args.bench.now).file c.file_read.new.out (omega (arith, c.requires.told told))
    (c.in-Ok.ensures.does.ok told) c.if-gate.true

pub returns-else-gate-clause-gives : goal.returns-else-gate-clause-gives
returns-else-gate-clause-gives g c = λ told. gate_shut (g.B.Bench.state c.args.bench.now).file c.file_read.new.out (omega (arith, c.requires.told told))
    (c.in-Ok.ensures.does.ok told) c.if-gate.false

pub returns-then-gate-clause-counted : goal.returns-then-gate-clause-counted
returns-then-gate-clause-counted g c = stayed c.in-Ok.ensures.does.cause

pub returns-then-whole-le1-clause-reads : goal.returns-then-whole-le1-clause-reads
returns-then-whole-le1-clause-reads g c = only_reads_here _ _

pub returns-in-Err-clause-counted : goal.returns-in-Err-clause-counted
returns-in-Err-clause-counted g c = caused c.in-Err.ensures.does.cause

pub returns-else-gate-clause-counted : goal.returns-else-gate-clause-counted
returns-else-gate-clause-counted g c = stayed c.in-Ok.ensures.does.cause
