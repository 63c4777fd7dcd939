-- `fits`: what holds at each turn of its loop.
use Rattle.std.proofs.Common.{◌<◌, ℕ}
use Rattle.duty_table.specs.Alike.{FitsAt}
use Rattle.duty_table.proofs.fits.fits.Given as goal

abbrev pub invariant-loop-k : goal.invariant-loop-k
invariant-loop-k l = (j : ℕ) → j < l.k → FitsAt l.one l.other j
