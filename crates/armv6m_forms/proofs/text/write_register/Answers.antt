-- `write_register`: its clause `text`.
use Rattle.std.proofs.Common.{append_assoc, refl}
use Rattle.armv6m_forms.proofs.WritingLemmas.{numbered_register}
use Rattle.armv6m_forms.proofs.text.write_register.Goals as goal

pub returns-else-register-lt16-clause-text : goal.returns-else-register-lt16-clause-text
returns-else-register-lt16-clause-text c = rw (
  numbered_register c.args.register c.if-register-lt16.false,
  c.put-else-register-lt16-2.ensures,
  c.put-else-register-lt16.ensures,
  c.as_bytes.ensures.value,
  c.format.ensures.text,
  append_assoc,
) refl
