-- `address_of`: what `find_address` requires.
use Rattle.board_file.proofs.Laws.{region_at}
use Rattle.gang_commands.proofs.refusals.address_of.Goals as goal

pub find_address-requires : goal.find_address-requires
find_address-requires c = λ k d less. (region_at c.as_slice.result.now k d less (rw c.as_slice.ensures c.in-Some.job.now.board.regions_fit)).ends
