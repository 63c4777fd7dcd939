-- `Labels::get`: its clauses `cases` and `first`, and that its loop keeps its invariant.
use Rattle.std.proofs.Common.{◌≡◌, ◌≢◌, ◌∙◌, List, sym, take, subst, arith}
use Rattle.std.specs.Prelude.{Contains}
use Rattle.std.proofs.lemmas.Bool.{false≢true}
use Rattle.std.proofs.lemmas.List.{take_all}
use Rattle.std.proofs.lemmas.Slice.Eq.{bytes_eq-Decides}
use Rattle.armv6m_asm.specs.declared.labels.Label.{Label}
use Rattle.armv6m_asm.specs.Label.{names_of, IsFirstNamed}
use Rattle.armv6m_asm.proofs.Names.{not_yet, first_named}
use Rattle.armv6m_asm.proofs.labels.Labels.get.Goals as goal

pub loop-label-preserved : goal.loop-label-preserved
loop-label-preserved c =
    let labels = c.deref-label-items.result.now in
    let d = c.label-item.result in
    let name = c.args.name.now in
    let other : d.name ≢ name = λ same.
    let yes = (bytes_eq-Decides c.bytes.result.now name).1 (c.bytes.ensures ∙ same) in
    absurd (false≢true (sym c.if-eq.false ∙ c.eq.ensures ∙ yes)) in
    not_yet labels c.loop-label.label-index d name (omega arith) c.loop-label.invariant (subst (λ (l : Label). l.name ≢ name) c.label-item.is other)

pub returns-clause-cases : goal.returns-clause-cases
returns-clause-cases c =
    let items : take c.loop-label.label-index c.deref-label-items.result.now ≡ c.args.self.now =
    take_all c.loop-label.label-index c.deref-label-items.result.now (omega arith) ∙ c.deref-label-items.ensures.value ∙ c.self.view_is in
    subst (λ (ls : List Label). Contains (names_of ls) c.args.name.now → ⊥) items c.loop-label.invariant

pub returns-then-eq-clause-first : goal.returns-then-eq-clause-first
returns-then-eq-clause-first c =
    let labels = c.deref-label-items.result.now in
    let d = c.label-item.result in
    let name = c.args.name.now in
    let same : d.name ≡ name = sym c.bytes.ensures ∙ (bytes_eq-Decides c.bytes.result.now name).0 (sym c.eq.ensures ∙ c.if-eq.true) in
    subst (λ (ls : List Label). IsFirstNamed ls name d.place) (c.deref-label-items.ensures.value ∙ c.self.view_is)
    (first_named labels c.loop-label.label-index d name (omega arith) c.loop-label.invariant c.label-item.is same)
