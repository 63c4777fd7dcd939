-- `one_immediate`: its contract, `IsReadAs`.
use Rattle.std.proofs.Common.{arith, refl, None}
use Rattle.std.proofs.lemmas.Bool.Decides.{nat_tests}
use Rattle.armv6m_forms.proofs.ReadLemmas.{read_one_immediate, unread_one_immediate}
use Rattle.armv6m_forms.proofs.rows.one_immediate.Goals as goal

pub returns-in_default : goal.returns-in_default
returns-in_default c = unread_one_immediate c.args.mnemonic c.args.d c.args.immediate None (grind (arith, nat_tests)) refl

pub returns-in_err-immediate : goal.returns-in_err-immediate
returns-in_err-immediate c = unread_one_immediate c.args.mnemonic c.args.d c.args.immediate _ (grind (arith, nat_tests)) c.from_residual.ensures

pub returns-in_default-2 : goal.returns-in_default-2
returns-in_default-2 c = unread_one_immediate c.args.mnemonic c.args.d c.args.immediate None (grind (arith, nat_tests)) refl

pub returns-in_default-3 : goal.returns-in_default-3
returns-in_default-3 c = unread_one_immediate c.args.mnemonic c.args.d c.args.immediate None (grind (arith, nat_tests)) refl

pub returns : goal.returns
returns c = read_one_immediate c.args.mnemonic c.args.d c.args.immediate c.match-mnemonic.instr _ (grind (arith, nat_tests)) c.fitting.ensures
