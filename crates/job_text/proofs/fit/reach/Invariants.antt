-- `reach`: what holds at each turn of its loop.
use Rattle.std.proofs.Common.{◌≡◌, drop}
use Rattle.job_text.specs.Reading.{reach}
use Rattle.job_text.proofs.fit.reach.Given as goal

abbrev pub invariant-regions : goal.invariant-regions
invariant-regions l = reach (drop l.region-index l.regions) l.at ≡ reach l.regions l.at
