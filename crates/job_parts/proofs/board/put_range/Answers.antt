-- `put_range`: its contract, `Puts`.
use Rattle.job_parts.specs.Board.{quiet_line}
use Rattle.job_parts.proofs.board.put_range.Goals as goal

pub returns : goal.returns
unfolding quiet_line
returns g c = rw (c.hex_digits-base.ensures, c.as_bytes-size.ensures.value, c.format.ensures.text) at c.put_pieces.ensures
