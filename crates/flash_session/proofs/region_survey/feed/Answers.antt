-- `feed`: its clauses `cells` and `wanted`.
use Rattle.std.proofs.Common.{arith}
use Rattle.std.proofs.lemmas.Grind.{get_or_default_zero}
use Rattle.flash_session.proofs.region_survey.feed.Goals as goal

pub returns-clause-cells : goal.returns-clause-cells
returns-clause-cells c = λ k d less. omega (arith, get_or_default_zero c.args.cells.now k d less, c.type_inv.cells k)

pub returns-clause-wanted : goal.returns-clause-wanted
returns-clause-wanted c = λ k d less. omega (arith, get_or_default_zero c.args.wanted.now k d less, c.type_inv.wanted k)
