-- `read_images`: what holds at each turn of its loop.
use Rattle.image_more.specs.Files.{IsUnionBefore}
use Rattle.command_files.proofs.wanted.read_images.Given as goal

abbrev pub invariant-loop-index : goal.invariant-loop-index
invariant-loop-index l = IsUnionBefore l.raw_at l.files l.index l.image
