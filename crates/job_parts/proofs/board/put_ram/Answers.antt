-- `put_ram`: its contract, `Puts`.
use Rattle.job_parts.specs.Board.{ram_line}
use Rattle.job_parts.proofs.board.put_ram.Goals as goal

pub returns : goal.returns
unfolding ram_line
returns g c =
    rw (c.hex_digits-base.ensures, c.as_bytes-size.ensures.value, c.format.ensures.text, c.as_bytes-stack.ensures.value, c.format-2.ensures.text)
    at c.put_pieces.ensures
