-- `read_mnemonic`: its clauses `some` and `none`.
use Rattle.std.proofs.Common.{◌∙◌, ap, arith, sym}
use Rattle.std.proofs.lemmas.Slice.Eq.{bytes_eq-Decides}
use Rattle.armv6m_forms.specs.Text.{text_of}
use Rattle.armv6m_forms.proofs.TextLemmas.{stands}
use Rattle.armv6m_forms.proofs.word.read_mnemonic.Goals as goal

pub returns-clause-none : goal.returns-clause-none
returns-clause-none c = λ mnemonic same.
    let at = stands mnemonic in
    c.loop-mnemonic.invariant at.place (omega (arith, at.inside)) (ap text_of at.there ∙ same)

pub returns-then-eq-clause-some : goal.returns-then-eq-clause-some
returns-then-eq-clause-some c = sym c.text.ensures.text ∙ (bytes_eq-Decides c.text.result.now c.args.word.now).0 (sym c.eq.ensures ∙ c.if-eq.true)
