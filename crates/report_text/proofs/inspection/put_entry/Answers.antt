-- `put_entry`: its contract, `Puts`.
use Rattle.report_text.specs.Inspection.{entry_text}
use Rattle.report_text.proofs.inspection.put_entry.Goals as goal

pub returns : goal.returns
unfolding entry_text
returns g c = rw (c.hex_digits-place.ensures, c.text.ensures) at c.put_pieces.ensures
