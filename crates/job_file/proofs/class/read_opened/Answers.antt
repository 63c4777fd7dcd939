-- `read_opened`: its clauses `class`, `reads` and `counted`, and what `find_damage` requires.
use Rattle.std.proofs.Common.{◌≡◌, ◌∙◌, ℕ, List, Option, Some, length, drop, ap, subst, sym, refl, arith, true}
use Rattle.std.proofs.lemmas.Grind.{common_steps}
use Rattle.job_text.specs.Reading.{format_in, kept_in}
use Rattle.job_text.specs.declared.damage.Damage.{Damage}
use Rattle.job_text.specs.Shown.{IsDamage}
use Rattle.job_text.specs.Stands.{IsFoundDamaged}
use Rattle.job_text.proofs.ClassLemmas.{damaged_as}
use Rattle.bench_model.proofs.Moments.{only_reads_then}
use Rattle.bench_model.proofs.CountLemmas.{none_counted}
use Rattle.job_file.proofs.CountLemmas.{counted_behind, caused, stayed}
use Rattle.job_file.specs.Readers.{IsGate}
use Rattle.job_file.proofs.class.read_opened.Goals as goal

pub find_damage-requires-clause-told : goal.find_damage-requires-clause-told
find_damage-requires-clause-told g c = λ told. ap (λ (l : List ℕ). length l) (c.read_format.ensures.reads.file told) ∙ c.requires.told told

pub find_damage-requires-clause-format : goal.find_damage-requires-clause-format
find_damage-requires-clause-format g c = λ told.
    subst (λ (f : List ℕ). format_in (drop 1 f) ≡ c.in-Ok.format) (sym (c.read_format.ensures.reads.file told)) (c.in-Ok.ensures.ok told)

pub returns-in-Ok-Some-clause-class : goal.returns-in-Ok-Some-clause-class
returns-in-Ok-Some-clause-class g c = λ told.
    let file = (g.B.Bench.state c.args.bench.now).file in
    let gate = c.requires.opened told in
    let damage = c.in-Ok-Some.damage in
    let one = (g.B.Bench.state c.read_format.new.bench).file in
    let d : IsDamage (Some damage) (drop 1 file) =
    subst (λ (f : List ℕ). IsDamage (Some damage) (drop 1 f)) (c.read_format.ensures.reads.file told)
    (subst (λ (o : Option Damage). IsDamage o (drop 1 one)) c.in-Ok-Some.field-0-is (c.in-Ok-Some.ensures.ok told)) in
    subst (λ (l : List ℕ). IsFoundDamaged l damage.found file) (sym d.1)
    (subst (λ (l : List ℕ). IsFoundDamaged (kept_in (drop 1 file)) l file) (sym d.2) (damaged_as file gate.0 gate.1 d.0))

pub returns-in-Ok-None-clause-reads : goal.returns-in-Ok-None-clause-reads
returns-in-Ok-None-clause-reads g c = only_reads_then (only_reads_then c.read_format.ensures.reads c.find_damage.ensures.reads) c.class_of_job.ensures.reads

pub returns-in-Ok-Some-clause-reads : goal.returns-in-Ok-Some-clause-reads
returns-in-Ok-Some-clause-reads g c = only_reads_then c.read_format.ensures.reads c.find_damage.ensures.reads

pub returns-in-Ok-None-clause-counted : goal.returns-in-Ok-None-clause-counted
returns-in-Ok-None-clause-counted g c = counted_behind (none_counted _ _ (c.in-Ok-None.ensures.cause.on_ok refl ∙ c.in-Ok.ensures.cause.on_ok refl))
    c.class_of_job.ensures.counted

pub returns-in-Ok-Some-clause-counted : goal.returns-in-Ok-Some-clause-counted
returns-in-Ok-Some-clause-counted g c = none_counted _ _ (c.in-Ok-Some.ensures.cause.on_ok refl ∙ c.in-Ok.ensures.cause.on_ok refl)

pub class_of_job-requires-clause-told : goal.class_of_job-requires-clause-told
class_of_job-requires-clause-told g c = λ told. ap (λ (l : List ℕ). length l) (c.find_damage.ensures.reads.file told ∙ c.read_format.ensures.reads.file told)
    ∙ c.requires.told told

pub returns-in-Err-clause-counted : goal.returns-in-Err-clause-counted
returns-in-Err-clause-counted g c = caused c.in-Err.ensures.cause

pub class_of_job-requires-clause-opened : goal.class_of_job-requires-clause-opened
class_of_job-requires-clause-opened g c = λ told. subst (λ (f : List ℕ). IsGate f true)
    (sym (c.find_damage.ensures.reads.file told ∙ c.read_format.ensures.reads.file told)) (c.requires.opened told)

pub returns-in-Ok-Some-clause-sound : goal.returns-in-Ok-Some-clause-sound
returns-in-Ok-Some-clause-sound g c = grind (arith, common_steps)

pub returns-in-Err-find_damage-clause-counted : goal.returns-in-Err-find_damage-clause-counted
returns-in-Err-find_damage-clause-counted g c = counted_behind (stayed c.in-Ok.ensures.cause) (caused c.in-Err-find_damage.ensures.cause)

pub returns-in-Err-find_damage-clause-reads : goal.returns-in-Err-find_damage-clause-reads
returns-in-Err-find_damage-clause-reads g c = only_reads_then c.read_format.ensures.reads c.find_damage.ensures.reads

pub returns-in-Ok-None-clause-class : goal.returns-in-Ok-None-clause-class
returns-in-Ok-None-clause-class g c = grind (arith, common_steps)
