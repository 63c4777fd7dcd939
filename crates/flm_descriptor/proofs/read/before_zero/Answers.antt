-- `before_zero`: that it keeps its contract.
use Rattle.std.proofs.Common.{refl}
use Rattle.elf32.specs.Strings.{is_zero}
use Rattle.octets.proofs.LineLemmas.{unwrap_or-position}
use Rattle.flm_descriptor.proofs.read.before_zero.Goals as goal

pub returns : goal.returns
returns c = rw (c.unwrap_or-len.ensures, c.zero_place.ensures, unwrap_or-position is_zero c.args.bytes.now) refl
