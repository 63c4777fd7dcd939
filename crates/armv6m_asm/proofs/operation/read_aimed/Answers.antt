-- `read_aimed`: its contract, `AreAimed`.
use Rattle.std.proofs.Common.{◌≡◌, ◌≢◌, codes, rules, ap, sym, ◌∙◌, ◌∷◌}
use Rattle.armv6m_forms.specs.declared.form.Aim.{Aim}
use Rattle.armv6m_asm.specs.Token.{word, tokens_of}
use Rattle.armv6m_asm.specs.Statement.{AreAimed}
use Rattle.armv6m_asm.specs.declared.statement.Destination.{Destination}
use Rattle.armv6m_asm.proofs.StatementLemmas.{no_aimed, no_load, no_address, load_text, address_text, branch_aimed}
use Rattle.armv6m_asm.proofs.operation.read_aimed.Goals as goal

pub returns-in_err-t : goal.returns-in_err-t
returns-in_err-t c =
    let is : c.args.first.now ≡ codes "LDR" = search rules in
    let none : (aim : Aim) (to : Destination) → AreAimed aim to (word c.args.first.now ∷ tokens_of c.args.rest.now) → ⊥ = no_load _ _ is c.in_err-t.ensures in
    rw c.from_residual.ensures none

pub returns-in_err-d : goal.returns-in_err-d
returns-in_err-d c =
    let is : c.args.first.now ≡ codes "ADR" = search rules in
    let none : (aim : Aim) (to : Destination) → AreAimed aim to (word c.args.first.now ∷ tokens_of c.args.rest.now) → ⊥ =
    no_address _ _ is c.in_err-d.ensures in
    rw c.from_residual-in_err-d.ensures none

pub returns-in_err-aim : goal.returns-in_err-aim
returns-in_err-aim c =
    let load : c.args.first.now ≢ codes "LDR" = search rules in
    let address : c.args.first.now ≢ codes "ADR" = search rules in
    let none : (aim : Aim) (to : Destination) → AreAimed aim to (word c.args.first.now ∷ tokens_of c.args.rest.now) → ⊥ =
    no_aimed _ _ (λ is. absurd (load is)) (λ is. absurd (address is)) (λ aim branch is. absurd (c.in_err-aim.ensures.none aim branch is)) in
    rw c.from_residual-in_err-aim.ensures none

pub returns-in_err-destination : goal.returns-in_err-destination
returns-in_err-destination c =
    let load : c.args.first.now ≢ codes "LDR" = search rules in
    let address : c.args.first.now ≢ codes "ADR" = search rules in
    let none : (aim : Aim) (to : Destination) → AreAimed aim to (word c.args.first.now ∷ tokens_of c.args.rest.now) → ⊥ =
    no_aimed _ _ (λ is. absurd (load is)) (λ is. absurd (address is)) (λ aim branch is. c.in_err-destination.ensures) in
    rw c.from_residual-in_err-destination.ensures none

pub returns-in_ok-t : goal.returns-in_ok-t
returns-in_ok-t c =
    let is : c.args.first.now ≡ codes "LDR" = search rules in
    (ap word (is ∙ sym (load_text _)), c.in_ok-t.ensures)

pub returns-in_ok-d : goal.returns-in_ok-d
returns-in_ok-d c =
    let is : c.args.first.now ≡ codes "ADR" = search rules in
    (ap word (is ∙ sym (address_text _)), c.in_ok-d.ensures)

pub returns-in_ok-destination : goal.returns-in_ok-destination
returns-in_ok-destination c = branch_aimed _ _ _ _ c.in_ok-aim.ensures.branch c.in_ok-aim.ensures.some c.in_ok-destination.ensures
