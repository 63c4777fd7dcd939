-- `hash_window`: its clause `ok`.
use Rattle.std.proofs.Common.{◌++◌, ℕ, List, subst}
use Rattle.sha2.specs.Hashers.{Holds256}
use Rattle.job_parts.proofs.hashes.hash_window.Goals as goal

pub returns-clause-ok : goal.returns-clause-ok
returns-clause-ok g c = λ told m holds. subst (λ (l : List ℕ). Holds256 c.update.new.self (m ++ l)) (c.in_ok-file_read.ensures.does.ok told)
    (c.update.ensures m holds)
