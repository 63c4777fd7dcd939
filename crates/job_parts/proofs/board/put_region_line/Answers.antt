-- `put_region_line`: its contract, `Puts`.
use Rattle.job_parts.specs.Board.{region_line}
use Rattle.job_parts.proofs.board.put_region_line.Goals as goal

pub returns : goal.returns
unfolding region_line
returns g c =
    rw (
      c.hex_digits-base.ensures,
      c.as_bytes-size.ensures.value,
      c.format.ensures.text,
      c.hex_digits-empty.ensures,
      c.from.ensures,
      c.as_bytes-unit.ensures.value,
      c.format-2.ensures.text,
    )
    at c.put_pieces.ensures
