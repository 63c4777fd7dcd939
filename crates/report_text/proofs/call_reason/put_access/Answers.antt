-- `put_access`: its contract, `Puts`.
use Rattle.report_text.specs.Calls.{access_text}
use Rattle.report_text.proofs.call_reason.put_access.Goals as goal

pub returns : goal.returns
unfolding access_text
returns g c = rw (c.hex_digits-pc.ensures, c.hex_digits-at.ensures) at c.put_pieces.ensures
