-- `find_address`: what holds at each turn of its loop.
use Rattle.job_commands.proofs.AddressLemmas.{Searches}
use Rattle.job_commands.proofs.places.find_address.Given as goal

abbrev pub invariant-loop-region : goal.invariant-loop-region
invariant-loop-region l = Searches l.regions l.place l.region-index l.rest
