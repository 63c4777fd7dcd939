-- `two`: its contract, `IsReadAs`.
use Rattle.std.proofs.Common.{arith, refl, None}
use Rattle.std.proofs.lemmas.Bool.Decides.{nat_tests}
use Rattle.armv6m_forms.proofs.ReadLemmas.{read_two, unread_two}
use Rattle.armv6m_forms.proofs.rows.two.Goals as goal

pub returns-in_default : goal.returns-in_default
returns-in_default c = unread_two c.args.mnemonic c.args.d c.args.m None (grind (arith, nat_tests)) refl

pub returns : goal.returns
returns c = read_two c.args.mnemonic c.args.d c.args.m c.match-mnemonic.instr _ (grind (arith, nat_tests)) c.fitting.ensures
