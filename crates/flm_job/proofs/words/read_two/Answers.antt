-- `read_two`: its clause `some`.
use Rattle.std.proofs.Common.{[], ◌∷◌, ◌≡◌, IfSome, ℕ, List, sym, subst, arith}
use Rattle.std.proofs.lemmas.Grind.{elements}
use Rattle.flm_job.specs.Words.{AskFor, snapshot_name}
use Rattle.flm_job.proofs.words.read_two.Goals as goal

pub returns-in-snapshot-clause-some : goal.returns-in-snapshot-clause-some
returns-in-snapshot-clause-some c =
    let same : c.args.word.now ≡ snapshot_name = grind (arith, elements) in
    subst (λ (word : List ℕ). IfSome c.read_snapshot.result (AskFor (word ∷ c.args.detail.now ∷ []))) (sym same) c.read_snapshot.ensures.some
