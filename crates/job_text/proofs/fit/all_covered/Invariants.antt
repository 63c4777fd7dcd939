-- `all_covered`: what holds at each turn of its loop.
use Rattle.std.proofs.Common.{◌≡◌, drop}
use Rattle.job_text.specs.Reading.{all_covered}
use Rattle.job_text.proofs.fit.all_covered.Given as goal

abbrev pub invariant-each : goal.invariant-each
invariant-each l = all_covered l.regions (drop l.index l.image) ≡ all_covered l.regions l.image
