-- `put_run`: its contract, `Puts`.
use Rattle.job_parts.specs.Board.{sectors_line}
use Rattle.job_parts.proofs.board.put_run.Goals as goal

pub returns : goal.returns
unfolding sectors_line
returns g c = rw (c.as_bytes-count.ensures.value, c.format.ensures.text, c.as_bytes-size.ensures.value, c.format-2.ensures.text) at c.put_pieces.ensures
