-- `class_of_job`: its clause `class`.
use Rattle.std.proofs.Common.{◌∙◌, ℕ, length, drop, ap, subst, arith}
use Rattle.std.proofs.lemmas.Grind.{common_steps}
use Rattle.job_text.specs.declared.format.Format.{Format}
use Rattle.job_text.specs.Reading.{job_as}
use Rattle.job_text.proofs.ClassLemmas.{not_as}
use Rattle.job_file.specs.declared.fault.ReadFault.{ReadFault}
use Rattle.job_file.specs.Readers.{Fails}
use Rattle.job_file.proofs.JobLemmas.{job_stands}
use Rattle.job_file.proofs.class.class_of_job.Goals as goal

pub returns-in-Ok-clause-class : goal.returns-in-Ok-clause-class
returns-in-Ok-clause-class g c = λ told.
    job_stands c.in-Ok.job c.args.format (g.B.Bench.state c.args.bench.now).file (c.requires.opened told) (c.requires.format told) (c.requires.intact told)
    (c.in-Ok.ensures.ok told)

pub returns-in-Err-NotAJob-clause-class : goal.returns-in-Err-NotAJob-clause-class
returns-in-Err-NotAJob-clause-class g c = λ told.
    let file = (g.B.Bench.state c.args.bench.now).file in
    let at = c.in-Err-NotAJob.at in
    let gate = c.requires.opened told in
    not_as file at gate.0 gate.1 (c.requires.intact told)
    (ap (λ (f : Format). job_as (length file) f (drop 1 file)) (c.requires.format told)
    ∙ ap (λ (n : ℕ). job_as n c.args.format (drop 1 file)) (c.requires.told told)
    ∙ subst (λ (e : ReadFault). Fails e (job_as c.args.whole c.args.format (drop 1 file))) c.in-Err-NotAJob.field-0-is (c.in-Err-NotAJob.ensures.err told))

pub returns-in-Err-OutOfMemory-clause-counted : goal.returns-in-Err-OutOfMemory-clause-counted
returns-in-Err-OutOfMemory-clause-counted g c = grind (arith, common_steps)

pub returns-in-Err-NotAJob-clause-counted : goal.returns-in-Err-NotAJob-clause-counted
returns-in-Err-NotAJob-clause-counted g c = grind (arith, common_steps)

pub returns-in-Err-StoreFault-clause-counted : goal.returns-in-Err-StoreFault-clause-counted
returns-in-Err-StoreFault-clause-counted g c = grind (arith, common_steps)
