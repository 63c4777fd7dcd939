-- `to_special`: its contract, `IsReadAs`.
use Rattle.std.proofs.Common.{arith, refl, None}
use Rattle.std.proofs.lemmas.Bool.Decides.{nat_tests}
use Rattle.armv6m_decode.specs.declared.instr.Instr.TheVariants as instr
use Rattle.armv6m_decode.specs.declared.instr.Other.TheVariants.{Msr}
use Rattle.armv6m_forms.proofs.ReadLemmas.{read_to_special, unread_to_special}
use Rattle.armv6m_forms.proofs.rows.to_special.Goals as goal

pub returns-in_default : goal.returns-in_default
returns-in_default c = unread_to_special c.args.mnemonic c.args.special c.args.n None (grind (arith, nat_tests)) refl

pub returns : goal.returns
returns c = read_to_special c.args.mnemonic c.args.special c.args.n (instr.Other (Msr c.args.n c.args.special)) _ (grind (arith, nat_tests)) c.fitting.ensures
