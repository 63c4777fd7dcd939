-- `Stand::holds`: its clauses `same` and `bytes`.
use Rattle.std.proofs.Common.{sym, ◌∙◌, arith}
use Rattle.std.proofs.lemmas.Grind.{get_or_default_zero}
use Rattle.duty_trials.proofs.stand.Stand.holds.Goals as goal

pub returns-clause-same : goal.returns-clause-same
returns-clause-same c = (λ yes'. sym c.cells.ensures ∙ c.is_same.ensures.0 yes', λ same. c.is_same.ensures.1 (c.cells.ensures ∙ same))

pub returns-clause-bytes : goal.returns-clause-bytes
returns-clause-bytes c = λ k d less. omega (arith, get_or_default_zero c.args.wanted.now k d less, c.type_inv.wanted k)
