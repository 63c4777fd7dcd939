-- `immediate`: its contract, `IsReadAs`.
use Rattle.std.proofs.Common.{arith, refl, None}
use Rattle.std.proofs.lemmas.Bool.Decides.{nat_tests}
use Rattle.armv6m_decode.specs.declared.instr.Instr.TheVariants as instr
use Rattle.armv6m_decode.specs.declared.instr.Other.TheVariants.{Bkpt}
use Rattle.armv6m_forms.proofs.ReadLemmas.{read_immediate, unread_immediate}
use Rattle.armv6m_forms.proofs.rows.immediate.Goals as goal

pub returns-in_default : goal.returns-in_default
returns-in_default c = unread_immediate c.args.mnemonic c.args.immediate None (grind (arith, nat_tests)) refl

pub returns-in_err-immediate : goal.returns-in_err-immediate
returns-in_err-immediate c = unread_immediate c.args.mnemonic c.args.immediate _ (grind (arith, nat_tests)) c.from_residual.ensures

pub returns : goal.returns
returns c = read_immediate c.args.mnemonic c.args.immediate (instr.Other (Bkpt c.in_ok-immediate.immediate)) _ (grind (arith, nat_tests)) c.fitting.ensures
