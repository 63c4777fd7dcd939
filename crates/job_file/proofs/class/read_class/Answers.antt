-- `read_class`: its clause `class`, and what `read_opened` requires.
use Rattle.std.proofs.Common.{◌∙◌, true, ℕ, List, Bool, length, ap, subst, sym}
use Rattle.std.proofs.lemmas.Result.{IfOk-weaker}
use Rattle.job_text.specs.Stands.{IsClassOf}
use Rattle.bench_model.proofs.Moments.{only_reads_then}
use Rattle.job_file.specs.Readers.{IsGate}
use Rattle.job_file.proofs.CountLemmas.{counted_behind}
use Rattle.job_file.proofs.class.read_class.Goals as goal

pub read_opened-requires-clause-told : goal.read_opened-requires-clause-told
read_opened-requires-clause-told g c = λ told. ap (λ (l : List ℕ). length l) (c.is_open.ensures.reads.file told) ∙ c.requires.told told

pub read_opened-requires-clause-opened : goal.read_opened-requires-clause-opened
read_opened-requires-clause-opened g c = λ told.
    subst (λ (f : List ℕ). IsGate f true) (sym (c.is_open.ensures.reads.file told))
    (subst (λ (b : Bool). IsGate (g.B.Bench.state c.args.bench.now).file b) c.in-Ok-true.field-0-test (c.in-Ok-true.ensures.gives told))

pub returns-in-Ok-true-clause-class : goal.returns-in-Ok-true-clause-class
returns-in-Ok-true-clause-class g c = λ told.
    IfOk-weaker c.read_opened.result _ _ (λ k is. subst (λ (f : List ℕ). IsClassOf k f) (c.is_open.ensures.reads.file told) is)
    (c.read_opened.ensures.class told)

pub returns-in-Ok-false-clause-class : goal.returns-in-Ok-false-clause-class
returns-in-Ok-false-clause-class g c = λ told. subst (λ (b : Bool). IsGate (g.B.Bench.state c.args.bench.now).file b) c.in-Ok-false.field-0-test
    (c.in-Ok-false.ensures.gives told)

pub returns-in-Ok-true-clause-reads : goal.returns-in-Ok-true-clause-reads
returns-in-Ok-true-clause-reads g c = only_reads_then c.is_open.ensures.reads c.read_opened.ensures.reads

pub returns-in-Ok-true-clause-counted : goal.returns-in-Ok-true-clause-counted
returns-in-Ok-true-clause-counted g c = counted_behind c.in-Ok-true.ensures.counted c.read_opened.ensures.counted
