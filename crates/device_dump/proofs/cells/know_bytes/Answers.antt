-- `know_bytes`: that each item is a byte.
use Rattle.std.proofs.Common.{arith}
use Rattle.std.proofs.lemmas.Grind.{get_or_default_zero}
use Rattle.device_dump.proofs.cells.know_bytes.Goals as goal

pub returns : goal.returns
returns c = λ k d less. omega (arith, get_or_default_zero c.args.cells.now k d less, c.type_inv.cells k)
