-- `shut`: its clause `moments`.
use Rattle.std.proofs.Common.{refl, arith}
use Rattle.std.proofs.lemmas.Grind.{common_steps}
use Rattle.bench_model.proofs.Moments.{leaves_then, leaves_step}
use Rattle.job_text.specs.Files.{IsFree}
use Rattle.job_file.proofs.FileLemmas.{closing_free}
use Rattle.job_file.proofs.gate.shut.Goals as goal

pub returns-clause-moments : goal.returns-clause-moments
returns-clause-moments g c = λ told.
    let s2 = g.B.Bench.state c.shorten.new.bench in
    let short = c.in_ok-shorten.ensures.ok told in
    leaves_then IsFree (c.shorten.ensures.moments told) (leaves_step _ IsFree _ _ short.1 refl (λ f torn. closing_free s2.file f short.0 torn)
    c.write_synced.ensures.moments)

pub returns-clause-ok : goal.returns-clause-ok
returns-clause-ok g c = grind (arith, common_steps)

pub returns-clause-cause : goal.returns-clause-cause
returns-clause-cause g c = grind (arith, common_steps)

pub returns-clause-cells : goal.returns-clause-cells
returns-clause-cells g c = grind (arith, common_steps)
