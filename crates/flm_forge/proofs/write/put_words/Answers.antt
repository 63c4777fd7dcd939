-- `put_words`: its clause `fit`, and that its loop keeps its invariant.
use Rattle.std.proofs.Common.{◌<◌, ◌^◌, ℕ, subst, arith}
use Rattle.std.proofs.lemmas.Grind.{common_steps}
use Rattle.std.proofs.lemmas.List.{get_or_default}
use Rattle.flm_forge.proofs.write.put_words.Goals as goal

pub returns-clause-fit : goal.returns-clause-fit
returns-clause-fit c = λ k d less.
    subst (λ (n : ℕ). n < 2 ^ 32) (get_or_default c.args.numbers.now k 0 d less) (c.type_inv.numbers k).fits

pub loop-number-preserved : goal.loop-number-preserved
loop-number-preserved c = grind (arith, common_steps)

pub returns-clause-bytes : goal.returns-clause-bytes
returns-clause-bytes c = grind (arith, common_steps)
