-- `one`: its contract, `IsReadAs`.
use Rattle.std.proofs.Common.{arith, refl, None}
use Rattle.std.proofs.lemmas.Bool.Decides.{nat_tests}
use Rattle.armv6m_forms.proofs.ReadLemmas.{read_one, unread_one}
use Rattle.armv6m_forms.proofs.rows.one.Goals as goal

pub returns-in_default : goal.returns-in_default
returns-in_default c = unread_one c.args.mnemonic c.args.m None (grind (arith, nat_tests)) refl

pub returns : goal.returns
returns c = read_one c.args.mnemonic c.args.m c.match-mnemonic.instr _ (grind (arith, nat_tests)) c.fitting.ensures
