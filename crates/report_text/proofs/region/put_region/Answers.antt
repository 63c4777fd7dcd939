-- `put_region`: its contract, `Puts`.
use Rattle.report_text.specs.Region.{region_text}
use Rattle.report_text.proofs.region.put_region.Goals as goal

pub returns : goal.returns
unfolding region_text
returns g c = rw c.hex_digits-base.ensures at c.put_pieces.ensures
