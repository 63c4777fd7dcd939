-- `pages_stand_by_division`: its contract, `IsByDivision`.
use Rattle.flm_descriptor.proofs.Laws.{by_division}
use Rattle.flm_descriptor.proofs.law.pages_stand_by_division.Goals as goal

pub returns : goal.returns
returns c = by_division
