-- `put_region`: its contract, `Puts`.
use Rattle.std.proofs.Common.{ap}
use Rattle.std.specs.List.{flat_map}
use Rattle.job_parts.specs.Board.{sectors_line, region_text}
use Rattle.outside_io.proofs.PutTexts.{puts_as, puts_then, puts_stops, puts_failed}
use Rattle.job_parts.proofs.board.put_region.Goals as goal

pub returns-in_err-put_region_line : goal.returns-in_err-put_region_line
unfolding region_text
returns-in_err-put_region_line g c = puts_failed _ c.from_residual.ensures.0 (puts_stops _ c.in_err-put_region_line.ensures)

pub returns : goal.returns
unfolding region_text
returns g c = puts_then _ c.in_ok-put_region_line.ensures (puts_as (ap (flat_map sectors_line) c.as_slice.ensures) c.put_sectors.ensures)
