-- `register_name`: its clause `text`.
use Rattle.std.proofs.Common.{refl}
use Rattle.std.specs.Fmt.{digits}
use Rattle.armv6m_forms.specs.Text.{register_text}
use Rattle.armv6m_forms.proofs.word.register_name.Goals as goal

pub returns-in-0-clause-text : goal.returns-in-0-clause-text
unfolding register_text digits
returns-in-0-clause-text c = rw c.in-0.is refl

pub returns-in-1-clause-text : goal.returns-in-1-clause-text
unfolding register_text digits
returns-in-1-clause-text c = rw c.in-1.is refl

pub returns-in-2-clause-text : goal.returns-in-2-clause-text
unfolding register_text digits
returns-in-2-clause-text c = rw c.in-2.is refl

pub returns-in-3-clause-text : goal.returns-in-3-clause-text
unfolding register_text digits
returns-in-3-clause-text c = rw c.in-3.is refl

pub returns-in-4-clause-text : goal.returns-in-4-clause-text
unfolding register_text digits
returns-in-4-clause-text c = rw c.in-4.is refl

pub returns-in-5-clause-text : goal.returns-in-5-clause-text
unfolding register_text digits
returns-in-5-clause-text c = rw c.in-5.is refl

pub returns-in-6-clause-text : goal.returns-in-6-clause-text
unfolding register_text digits
returns-in-6-clause-text c = rw c.in-6.is refl

pub returns-in-7-clause-text : goal.returns-in-7-clause-text
unfolding register_text digits
returns-in-7-clause-text c = rw c.in-7.is refl

pub returns-in-8-clause-text : goal.returns-in-8-clause-text
unfolding register_text digits
returns-in-8-clause-text c = rw c.in-8.is refl

pub returns-in-9-clause-text : goal.returns-in-9-clause-text
unfolding register_text digits
returns-in-9-clause-text c = rw c.in-9.is refl

pub returns-in-10-clause-text : goal.returns-in-10-clause-text
unfolding register_text digits
returns-in-10-clause-text c = rw c.in-10.is refl

pub returns-in-11-clause-text : goal.returns-in-11-clause-text
unfolding register_text digits
returns-in-11-clause-text c = rw c.in-11.is refl

pub returns-in-12-clause-text : goal.returns-in-12-clause-text
unfolding register_text digits
returns-in-12-clause-text c = rw c.in-12.is refl
