-- `read_uf2`: its clause `err`, and that its loop keeps its invariant.
use Rattle.std.proofs.Common.{arith}
use Rattle.std.proofs.lemmas.Grind.{common_steps}
use Rattle.image_more.specs.Uf2.{runs_before}
use Rattle.image_more.proofs.Uf2Lemmas.{block_more, no_block, block_refused}
use Rattle.image_more.proofs.uf2.read_uf2.Goals as goal

pub loop-index-preserved : goal.loop-index-preserved
loop-index-preserved c =
    let before = c.loop-index.invariant in
    block_more c.args.bytes.now c.loop-index.index c.loop-index.map c.lay_block.new.map before c.in_ok-lay_block.ensures.right
    (c.in_ok-lay_block.ensures.union (runs_before c.args.bytes.now c.loop-index.index) before.union)

pub returns-in_err-lay_block-clause-err : goal.returns-in_err-lay_block-clause-err
returns-in_err-lay_block-clause-err c = grind (arith, no_block, block_refused)

pub returns-clause-ok : goal.returns-clause-ok
returns-clause-ok c = grind (arith, common_steps)

pub loop-index-init : goal.loop-index-init
loop-index-init c = grind (arith, common_steps)
