-- `by_offset`: its contract, `IsReadAs`.
use Rattle.std.proofs.Common.{arith, refl, None}
use Rattle.std.proofs.lemmas.Bool.Decides.{nat_tests}
use Rattle.armv6m_forms.proofs.ReadLemmas.{read_by_offset, unread_by_offset}
use Rattle.armv6m_forms.proofs.rows.by_offset.Goals as goal

pub returns-in_default : goal.returns-in_default
returns-in_default c = unread_by_offset c.args.mnemonic c.args.t c.args.n c.args.offset None (grind (arith, nat_tests)) refl

pub returns-in_err-immediate : goal.returns-in_err-immediate
returns-in_err-immediate c = unread_by_offset c.args.mnemonic c.args.t c.args.n c.args.offset _ (grind (arith, nat_tests)) c.from_residual.ensures

pub returns : goal.returns
returns c = read_by_offset c.args.mnemonic c.args.t c.args.n c.args.offset c.match-mnemonic.instr _ (grind (arith, nat_tests)) c.fitting.ensures
