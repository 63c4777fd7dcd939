-- `check`: that it keeps its contract.
use Rattle.std.proofs.Common.{rules}
use Rattle.image_srec.proofs.record.check.Goals as goal

pub returns-then-said-due : goal.returns-then-said-due
returns-then-said-due c = search rules

pub returns : goal.returns
returns c = search rules
