-- The arm of a halfword is the one that the table has for its upper ten bits.
use Rattle.armv6m_step.proofs.ArmLemmas.{in_arm}
use Rattle.armv6m_step.proofs.arms.arm_of.Goals as goal

pub returns : goal.returns
returns c = in_arm c.args.half c.ranges.half.fits
