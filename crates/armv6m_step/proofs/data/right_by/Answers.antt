-- A right shift by all bits but one, then by one.
use Rattle.armv6m_step.proofs.ShiftLemmas.{right}
use Rattle.armv6m_step.proofs.data.right_by.Goals as goal

pub returns : goal.returns
returns c carry = right c.args.value c.args.immediate carry c.ranges.value.fits c.requires
