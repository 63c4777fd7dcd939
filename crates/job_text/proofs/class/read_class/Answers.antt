-- `read_class`: its contract, `IsClass`.
use Rattle.std.proofs.Common.{◌≡◌, ◌-◌, length, take, drop, IfOk, sym, subst, arith}
use Rattle.std.proofs.lemmas.List.{take_all, length-drop}
use Rattle.job_text.specs.declared.job.Class.{Class}
use Rattle.job_text.specs.Reading as reading
use Rattle.job_text.specs.Shown.{IsClass}
use Rattle.job_text.proofs.ClassLemmas.{class_opened}
use Rattle.job_text.proofs.class.read_class.Goals as goal

pub returns : goal.returns
returns c =
    let file = c.args.file.now in
    let body : take (length file - 1) (drop 1 file) ≡ drop 1 file = take_all _ _ (omega (arith, length-drop 1 file)) in
    subst (λ (k : reading.Class). IfOk c.read_body.result (λ (x : Class). IsClass (length file) x k)) (sym (class_opened file (omega arith) c.if-file.false))
    (rw body at c.read_body.ensures)
