-- `fits`: that it keeps its contract.
use Rattle.std.proofs.Common.{arith, rules}
use Rattle.std.proofs.lemmas.Grind.{common_steps}
use Rattle.armv6m_encode.proofs.other.fits.Goals as goal

pub returns-then-d-lt8 : goal.returns-then-d-lt8
returns-then-d-lt8 c = first_of (search rules, grind (arith, common_steps))
