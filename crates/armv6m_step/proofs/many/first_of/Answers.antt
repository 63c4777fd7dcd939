-- The lowest bit of a list is its first register's.
use Rattle.armv6m_step.proofs.ListLemmas.{first_at}
use Rattle.armv6m_step.proofs.many.first_of.Goals as goal

pub returns : goal.returns
returns c =
    let first = first_at c.args.list c.requires c.ranges.list.fits in
    record { registers = first.0; fewer = first.1 }
