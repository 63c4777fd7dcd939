-- `unite`: that its loop keeps its invariant, and that no number overflows.
use Rattle.std.proofs.Common.{◌^◌, arith}
use Rattle.std.proofs.lemmas.Grind.{common_steps}
use Rattle.byte_map.proofs.Runs.{few_runs}
use Rattle.image_set.proofs.UnionLemmas.{united_none}
use Rattle.image_set.proofs.union.unite.Goals as goal

pub overflow_add-index-end : goal.overflow_add-index-end
overflow_add-index-end c =
    omega (
      arith,
      c.runs.ensures.count,
      c.runs-2.ensures.count,
      few_runs 0 (2 ^ 32) c.args.image.now c.runs.ensures.maximal,
      few_runs 0 (2 ^ 32) c.args.other.now c.runs-2.ensures.maximal,
    )

pub loop-index-init : goal.loop-index-init
loop-index-init c = united_none c.args.image.now c.args.other.now _ c.new-union.ensures

pub returns-clause-ok : goal.returns-clause-ok
returns-clause-ok c = grind (arith, common_steps)
