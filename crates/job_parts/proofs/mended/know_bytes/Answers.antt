-- `know_bytes`: that each item is a byte.
use Rattle.std.proofs.Common.{arith}
use Rattle.std.proofs.lemmas.Grind.{get_or_default_zero}
use Rattle.job_parts.proofs.mended.know_bytes.Goals as goal

pub returns : goal.returns
returns c = λ k d less. omega (arith, get_or_default_zero c.args.hash.now k d less, c.type_inv.hash k)
