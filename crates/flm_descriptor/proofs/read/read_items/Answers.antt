-- `read_items`: that it keeps its contract, and that its loop keeps its invariant.
use Rattle.std.proofs.lemmas.Grind.{common_steps}
use Rattle.std.proofs.Common.{◌∷◌, [], sym, ap, ◌∙◌, arith, length, length-append}
use Rattle.flm_descriptor.proofs.DescribedLemmas.{items_more}
use Rattle.flm_descriptor.proofs.read.read_items.Goals as goal

pub loop-index-preserved : goal.loop-index-preserved
loop-index-preserved c = (
  rw (c.in_ok-push.ensures.items, c.item.ensures, c.loop-index.invariant.0) (sym (items_more c.args.bytes.now c.args.at c.loop-index.index)),
  ap length c.in_ok-push.ensures.items ∙ length-append c.loop-index.items.items (c.item.result ∷ []) ∙ omega (arith, c.loop-index.invariant.1),
)

pub returns-clause-few : goal.returns-clause-few
returns-clause-few c = grind (arith, common_steps)
