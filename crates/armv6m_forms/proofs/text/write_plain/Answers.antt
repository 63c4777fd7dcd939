-- `write_plain`: its contract, `Plain`, and what `write_operands` requires.
use Rattle.std.proofs.Common.{refl, arith}
use Rattle.std.proofs.lemmas.Grind.{common_steps}
use Rattle.armv6m_forms.specs.Text.{form_text}
use Rattle.armv6m_forms.proofs.WritingLemmas.{form_text-plain}
use Rattle.armv6m_forms.proofs.text.write_plain.Goals as goal

pub returns-in-None : goal.returns-in-None
unfolding form_text
returns-in-None c = rw (c.in-None.is, c.put.ensures, c.text.ensures.text, c.requires.empty) refl

pub returns-in_default : goal.returns-in_default
returns-in_default c =
    rw (
      form_text-plain c.args.mnemonic c.args.operands.now c.in_default.not-None,
      c.write_operands.ensures,
      c.put-in_default.ensures,
      c.put.ensures,
      c.text.ensures.text,
      c.requires.empty,
    ) refl

pub write_operands-requires : goal.write_operands-requires
write_operands-requires c = grind (arith, common_steps)
