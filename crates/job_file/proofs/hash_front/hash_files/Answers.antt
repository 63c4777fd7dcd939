-- `hash_files`: its contract, `Holds256`.
use Rattle.std.proofs.Common.{◌++◌, ◌∙◌, ℕ, List, ap, subst, append_assoc}
use Rattle.sha2.specs.Hashers.{Holds256}
use Rattle.job_file.proofs.HashLemmas.{concat_none, concat_some}
use Rattle.job_file.proofs.hash_front.hash_files.Goals as goal

pub returns-in-None : goal.returns-in-None
returns-in-None c = λ m holds. subst (λ (l : List ℕ). Holds256 c.update.new.self (m ++ l)) (concat_none c.args.parts.now c.in-None.is)
    (c.update.ensures m holds)

pub returns-in-Some : goal.returns-in-Some
returns-in-Some c = λ m holds.
    let p = c.args.parts.now in
    let s = c.in-Some.second in
    subst (λ (l : List ℕ). Holds256 c.update-in-Some.new.self l) (append_assoc m p.flm.now s.now ∙ ap (λ (l : List ℕ). m ++ l) (concat_some p s c.in-Some.is))
    (c.update-in-Some.ensures _ (c.update.ensures m holds))
