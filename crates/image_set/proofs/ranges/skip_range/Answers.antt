-- `skip_range`: its clause `outside`.
use Rattle.std.proofs.Common.{arith}
use Rattle.std.proofs.lemmas.Grind.{common_steps}
use Rattle.image_set.proofs.RangeLemmas.{none_inside}
use Rattle.image_set.proofs.ranges.skip_range.Goals as goal

pub returns-clause-outside : goal.returns-clause-outside
returns-clause-outside c = λ is. none_inside c.args.ranges.now c.args.address (λ k lt. c.loop-base.invariant k (omega arith))

pub returns-then-address-end-clause-inside : goal.returns-then-address-end-clause-inside
returns-then-address-end-clause-inside c = grind (arith, common_steps)
