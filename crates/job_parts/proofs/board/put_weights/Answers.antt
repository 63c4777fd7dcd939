-- `put_weights`: its contract, `Puts`.
use Rattle.job_parts.specs.Board.{weights_line}
use Rattle.job_parts.proofs.board.put_weights.Goals as goal

pub returns : goal.returns
unfolding weights_line
returns g c =
    rw (
      c.as_bytes-sector.ensures.value,
      c.format.ensures.text,
      c.as_bytes-page.ensures.value,
      c.format-2.ensures.text,
      c.as_bytes-chip.ensures.value,
      c.format-3.ensures.text,
    )
    at c.put_pieces.ensures
