-- `by_register`: its contract, `IsReadAs`.
use Rattle.std.proofs.Common.{arith, refl, None}
use Rattle.std.proofs.lemmas.Bool.Decides.{nat_tests}
use Rattle.armv6m_forms.proofs.ReadLemmas.{read_by_register, unread_by_register}
use Rattle.armv6m_forms.proofs.rows.by_register.Goals as goal

pub returns-in_default : goal.returns-in_default
returns-in_default c = unread_by_register c.args.mnemonic c.args.t c.args.n c.args.m None (grind (arith, nat_tests)) refl

pub returns : goal.returns
returns c = read_by_register c.args.mnemonic c.args.t c.args.n c.args.m c.match-mnemonic.instr _ (grind (arith, nat_tests)) c.fitting.ensures
