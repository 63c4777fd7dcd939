-- `put_controller`: its contract, `Puts`.
use Rattle.job_parts.specs.Board.{controller_line}
use Rattle.job_parts.proofs.board.put_controller.Goals as goal

pub returns : goal.returns
unfolding controller_line
returns g c =
    rw (
      c.kind_word-kind.ensures,
      c.hex_digits-base.ensures,
      c.as_bytes-program.ensures.value,
      c.format.ensures.text,
      c.as_bytes-erase.ensures.value,
      c.format-2.ensures.text,
      c.as_bytes-chip.ensures.value,
      c.format-3.ensures.text,
    )
    at c.put_pieces.ensures
