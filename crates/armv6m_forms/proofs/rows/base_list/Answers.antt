-- `base_list`: its contract, `IsReadAs`.
use Rattle.std.proofs.Common.{arith, refl, None}
use Rattle.std.proofs.lemmas.Bool.Decides.{nat_tests}
use Rattle.armv6m_decode.specs.declared.instr.Instr.TheVariants as instr
use Rattle.armv6m_decode.specs.declared.instr.Many.TheVariants.{Ldm}
use Rattle.armv6m_forms.proofs.ReadLemmas.{read_base_list, unread_base_list}
use Rattle.armv6m_forms.proofs.rows.base_list.Goals as goal

pub returns-in_default : goal.returns-in_default
returns-in_default c = unread_base_list c.args.mnemonic c.args.n c.args.list None (grind (arith, nat_tests)) refl

pub returns-in_err-low : goal.returns-in_err-low
returns-in_err-low c = unread_base_list c.args.mnemonic c.args.n c.args.list _ (grind (arith, nat_tests)) c.from_residual.ensures

pub returns : goal.returns
returns c = read_base_list c.args.mnemonic c.args.n c.args.list (instr.Many (Ldm c.args.n c.in_ok-low.low)) _ (grind (arith, nat_tests)) c.fitting.ensures
