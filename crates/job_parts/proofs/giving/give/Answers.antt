-- `give`: its contract, `GiveEnds`.
use Rattle.std.proofs.Common.{refl}
use Rattle.job_parts.proofs.GiveLemmas.{ends_given, ends_refused}
use Rattle.job_parts.proofs.giving.give.Goals as goal

pub returns-in-Ok : goal.returns-in-Ok
returns-in-Ok g c = ends_given c.open.ensures.reads (c.in-Ok.ensures.counted.on_other refl) c.in-Ok.ensures.ok _ c.put_part.ensures

pub returns-in-Err : goal.returns-in-Err
returns-in-Err g c = rw c.from.ensures (ends_refused c.in-Err.fault c.open.ensures.reads c.in-Err.ensures.counted c.in-Err.ensures.refused)
