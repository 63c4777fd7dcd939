-- `put_rates`: its contract, `Puts`.
use Rattle.job_parts.specs.Board.{rates_line}
use Rattle.job_parts.proofs.board.put_rates.Goals as goal

pub returns : goal.returns
unfolding rates_line
returns g c = rw (c.as_bytes-hz.ensures.value, c.format.ensures.text, c.as_bytes-steps.ensures.value, c.format-2.ensures.text) at c.put_pieces.ensures
