-- `put_answer`: its contract, `Puts`.
use Rattle.report_text.specs.Calls.{answer_text}
use Rattle.report_text.proofs.call_reason.put_answer.Goals as goal

pub returns : goal.returns
unfolding answer_text
returns g c = rw c.hex_digits-r0.ensures at c.put_pieces.ensures
