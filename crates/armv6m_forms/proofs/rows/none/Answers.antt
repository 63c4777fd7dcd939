-- `none`: its contract, `IsReadAs`.
use Rattle.std.proofs.Common.{arith, refl, None}
use Rattle.std.proofs.lemmas.Bool.Decides.{nat_tests}
use Rattle.armv6m_forms.proofs.ReadLemmas.{read_none, unread_none}
use Rattle.armv6m_forms.proofs.rows.none.Goals as goal

pub returns-in_default : goal.returns-in_default
returns-in_default c = unread_none c.args.mnemonic None (grind (arith, nat_tests)) refl

pub returns : goal.returns
returns c = read_none c.args.mnemonic c.match-mnemonic.instr _ (grind (arith, nat_tests)) c.fitting.ensures
