-- `put_optional_entry`: its contract, `Puts`.
use Rattle.outside_io.proofs.PutTexts.{puts_nothing}
use Rattle.report_text.proofs.inspection.put_optional_entry.Goals as goal

pub returns-in-Some : goal.returns-in-Some
returns-in-Some g c = rw c.in-Some.is c.put_entry.ensures

pub returns-in-None : goal.returns-in-None
returns-in-None g c = rw c.in-None.is (puts_nothing _ _ _)
