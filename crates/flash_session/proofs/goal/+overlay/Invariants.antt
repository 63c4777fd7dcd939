-- `+overlay`: what falls with each turn of its loop.
use Rattle.std.proofs.Common.{length}
use Rattle.flash_session.proofs.goal.+overlay.Given as goal

abbrev pub decreases-overlay : goal.decreases-overlay
decreases-overlay l = length l.regions.now
