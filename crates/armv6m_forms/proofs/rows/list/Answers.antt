-- `list`: its contract, `IsReadAs`.
use Rattle.std.proofs.Common.{arith, refl, None}
use Rattle.std.proofs.lemmas.Bool.Decides.{nat_tests}
use Rattle.armv6m_forms.proofs.ReadLemmas.{read_list, unread_list}
use Rattle.armv6m_forms.proofs.rows.list.Goals as goal

pub returns-in_default : goal.returns-in_default
returns-in_default c = unread_list c.args.mnemonic c.args.list None (grind (arith, nat_tests)) refl

pub returns-in_default-2 : goal.returns-in_default-2
returns-in_default-2 c = unread_list c.args.mnemonic c.args.list None (grind (arith, nat_tests)) refl

pub returns-in_default-3 : goal.returns-in_default-3
returns-in_default-3 c = unread_list c.args.mnemonic c.args.list None (grind (arith, nat_tests)) refl

pub returns : goal.returns
returns c = read_list c.args.mnemonic c.args.list c.match-mnemonic.instr _ (grind (arith, nat_tests)) c.fitting.ensures
