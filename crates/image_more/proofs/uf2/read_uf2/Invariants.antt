-- `read_uf2`: what holds at each turn of its loop.
use Rattle.image_more.specs.Uf2.{IsImageBefore}
use Rattle.image_more.proofs.uf2.read_uf2.Given as goal

abbrev pub invariant-loop-index : goal.invariant-loop-index
invariant-loop-index l = IsImageBefore l.bytes l.index l.map
