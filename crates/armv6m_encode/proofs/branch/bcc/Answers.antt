-- `bcc`: its contract, `Decoded`.
use Rattle.std.proofs.Common.{◌∙◌, ap}
use Rattle.armv6m_decode.specs.declared.condition.Condition.{Condition}
use Rattle.armv6m_decode.specs.declared.instr.Branch.TheVariants.{Bcc}
use Rattle.armv6m_decode.specs.declared.instr.Instr.TheVariants as instr
use Rattle.armv6m_decode.specs.declared.instr.Decoded.TheVariants.{Op}
use Rattle.armv6m_decode.proofs.ConditionLemmas.{with_its_code}
use Rattle.armv6m_encode.proofs.branch.bcc.Goals as goal

pub returns : goal.returns
returns c =
    c.coded_bcc.ensures ∙ ap (λ (x : Condition). Op (instr.Branch (Bcc x c.args.immediate))) (with_its_code c.args.condition c.code.result c.code.ensures.code)
