-- `put_end`: its contract, `Puts`.
use Rattle.report_text.proofs.end.put_end.Goals as goal

pub returns-in-Done : goal.returns-in-Done
returns-in-Done g c = rw c.in-Done.is c.put_pieces.ensures

pub returns-in-Begun : goal.returns-in-Begun
returns-in-Begun g c = rw c.in-Begun.is c.put_pieces-in-Begun.ensures

pub returns-in-Same : goal.returns-in-Same
returns-in-Same g c = rw c.in-Same.is c.put_pieces-in-Same.ensures
