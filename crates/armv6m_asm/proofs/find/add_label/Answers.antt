-- `add_label`: its clauses `err` and `ok`.
use Rattle.std.proofs.Common.{◌≡◌, ◌∙◌, ◌++◌, ◌∷◌, [], List, ℕ, ap, subst, sym}
use Rattle.std.specs.Prelude.{Some, None, Option, is_some, false, Contains, MatchOption}
use Rattle.std.specs.Borrow.{Bor}
use Rattle.armv6m_asm.specs.Label.{names_of}
use Rattle.armv6m_asm.specs.Assembly.{label_at}
use Rattle.armv6m_asm.specs.Passes.{AddsLabels}
use Rattle.armv6m_asm.proofs.Names.{name_found}
use Rattle.armv6m_asm.proofs.Steps.{added_label}
use Rattle.armv6m_asm.proofs.find.add_label.Goals as goal

none_there : (o : Option ℕ) (P : Type 0) (Q : ℕ → Type 0) → is_some o ≡ false → MatchOption o P Q → P
none_there None P Q none cases = cases
none_there (Some place) P Q none cases = absurd (cc)

pub returns-clause-ok : goal.returns-clause-ok
returns-clause-ok c =
    let name = c.in-Some.name.now in
    let copied : c.in_ok-word.word ≡ name = c.in_ok-word.ensures in
    let pushed = c.in_ok-push.ensures in
    let not = none_there c.get.result _ _ (sym c.is_some.ensures ∙ c.if-is_some.false) c.get.ensures.cases in
    subst (λ (o : Option (Bor (List ℕ))). AddsLabels c.args.labels.now c.push.new.self (label_at o c.args.place)) (sym c.in-Some.is)
    (added_label c.args.labels.now c.push.new.self name c.args.place not
    (pushed ∙ ap (λ (n : List ℕ). c.args.labels.now ++ record { name = n; place = c.args.place } ∷ []) copied))

pub returns-then-is_some-clause-err : goal.returns-then-is_some-clause-err
returns-then-is_some-clause-err c =
    let name = c.in-Some.name.now in
    let copied : c.in_ok-word.word ≡ name = c.in_ok-word.ensures in
    let there = name_found c.args.labels.now name _ c.get.result (sym c.is_some.ensures ∙ c.if-is_some.true) c.get.ensures.cases in
    rw c.in-Some.is (record {
      named = ap (λ (n : List ℕ). n ∷ []) (sym copied);
      already = subst (Contains (names_of c.args.labels.now)) (sym copied) there;
    })
