-- `hash_run`: its contract, `Holds256`.
use Rattle.std.proofs.Common.{◌++◌, ◌∙◌, ℕ, List, length, ap, subst, append_assoc}
use Rattle.sha2.specs.Hashers.{Holds256}
use Rattle.job_text.specs.Body.{field}
use Rattle.job_file.proofs.hash_front.hash_run.Goals as goal

pub returns : goal.returns
returns c = λ m holds.
    let bytes = c.args.bytes.now in
    subst (λ (l : List ℕ). Holds256 c.update-2.new.self l)
    (ap (λ (l : List ℕ). (m ++ l) ++ bytes) c.run_head.ensures ∙ append_assoc m (field c.args.place ++ field (length bytes)) bytes)
    (c.update-2.ensures _ (c.update.ensures m holds))
