-- `stop_of`: the value that it answers.
use Rattle.std.proofs.Common.{◌+◌, sym, arith}
use Rattle.flm_descriptor.proofs.ItemLemmas.{end_next, end_last}
use Rattle.flm_descriptor.proofs.geometry.stop_of.Goals as goal
use Rattle.flm_descriptor.proofs.geometry.stop_of.Goals.{else-index-items-via-then-index-items+else-items-index, else-index-items-via-else-index-items}

pub returns-then-items-index : goal.returns-then-items-index
returns-then-items-index c =
    let e = end_next c.args.size c.args.items.now (c.args.index + 1) (record { size = 0; offset = 0 }) c.if-index-items.true in
    omega (arith, e, c.if-items-index.true)

pub returns-else-index-items : goal.returns-else-index-items
returns-else-index-items c = elim c.else-index-items.branch [
  | else-index-items-via-then-index-items+else-items-index w ↦
      (let e = end_next c.args.size c.args.items.now (c.args.index + 1) (record { size = 0; offset = 0 }) w.if-index-items.true in
      omega (arith, e, w.if-items-index.false))
  | else-index-items-via-else-index-items w ↦ sym (end_last c.args.size c.args.items.now (c.args.index + 1) (omega (arith, w.if-index-items.false)))
]
