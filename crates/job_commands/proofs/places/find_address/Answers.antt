-- `find_address`: its contract where the place lies in a region, and that its loop keeps its invariant.
use Rattle.job_commands.proofs.AddressLemmas.{search_on, search_ends}
use Rattle.job_commands.proofs.places.find_address.Goals as goal

pub loop-region-preserved : goal.loop-region-preserved
loop-region-preserved c =
    search_on c.args.regions.now c.args.place c.loop-region.region-index c.loop-region.rest c.region-item.result c.loop-region-test.true c.region-item.is
    c.loop-region.invariant c.if-rest-region.false

pub returns-then-rest-region : goal.returns-then-rest-region
returns-then-rest-region c =
    search_ends c.args.regions.now c.args.place c.loop-region.region-index c.loop-region.rest c.region-item.result c.loop-region-test.true c.region-item.is
    c.loop-region.invariant c.if-rest-region.true
