-- `from_special`: its contract, `IsReadAs`.
use Rattle.std.proofs.Common.{arith, refl, None}
use Rattle.std.proofs.lemmas.Bool.Decides.{nat_tests}
use Rattle.armv6m_decode.specs.declared.instr.Instr.TheVariants as instr
use Rattle.armv6m_decode.specs.declared.instr.Other.TheVariants.{Mrs}
use Rattle.armv6m_forms.proofs.ReadLemmas.{read_from_special, unread_from_special}
use Rattle.armv6m_forms.proofs.rows.from_special.Goals as goal

pub returns-in_default : goal.returns-in_default
returns-in_default c = unread_from_special c.args.mnemonic c.args.d c.args.special None (grind (arith, nat_tests)) refl

pub returns : goal.returns
returns c = read_from_special c.args.mnemonic c.args.d c.args.special (instr.Other (Mrs c.args.d c.args.special)) _ (grind (arith, nat_tests)) c.fitting.ensures
