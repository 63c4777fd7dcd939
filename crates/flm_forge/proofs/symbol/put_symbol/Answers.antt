-- `put_symbol`: that it keeps its contract.
use Rattle.std.proofs.Common.{arith}
use Rattle.std.proofs.lemmas.Grind.{common_steps}
use Rattle.flm_forge.specs.Symbols.{symbol_bytes}
use Rattle.flm_forge.proofs.symbol.put_symbol.Goals as goal

pub returns : goal.returns
unfolding symbol_bytes
returns c = grind (arith, common_steps)
