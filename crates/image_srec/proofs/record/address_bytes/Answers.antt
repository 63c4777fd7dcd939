-- `address_bytes`: that it keeps its contract.
use Rattle.std.proofs.Common.{rules}
use Rattle.image_srec.proofs.record.address_bytes.Goals as goal

pub returns-in_default-clause-len : goal.returns-in_default-clause-len
returns-in_default-clause-len c = search rules
