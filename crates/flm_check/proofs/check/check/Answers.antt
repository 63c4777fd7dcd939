-- `check`: its contract, `Answers`.
use Rattle.std.proofs.Common.{refl, Ok, Err}
use Rattle.flm_check.proofs.check.check.Goals as goal

pub returns-in-Ok : goal.returns-in-Ok
returns-in-Ok g c = record {
  result = Ok c.in-Ok.ending;
  works = c.in-Ok.ensures;
  says = (c.status.ensures, record { taken = refl; faults = refl });
}

pub returns-in-Err : goal.returns-in-Err
returns-in-Err g c = record {
  result = Err c.in-Err.refusal;
  works = c.in-Err.ensures;
  says = (c.refuse.ensures.status, c.refuse.ensures.line);
}
