-- `form_and_board`: its clauses `none` and `some`.
use Rattle.std.proofs.lemmas.Grind.{common_steps}
use Rattle.std.proofs.Common.{◌≡◌, ◌==◌, ◌-◌, ◌∙◌, true, false, refl, sym, ap, arith, ℕ, List, length, take, drop, [], ◌∷◌}
use Rattle.std.proofs.lemmas.Bool.{eqb-true}
use Rattle.command_words.specs.Words.{form_text}
use Rattle.command_words.proofs.FitLemmas.{names_alone, no_address, the_names, as_many, two_fronts, nil_of}
use Rattle.command_words.proofs.fit.form_and_board.Goals as goal

pub returns-then-not-has_no_address-clause-none : goal.returns-then-not-has_no_address-clause-none
returns-then-not-has_no_address-clause-none c =
    let line = c.args.line.now in
    λ others spells form board positional.
    let none = no_address others line.addresses.items line.names.items spells (form_text form ∷ board ∷ []) positional in
    let wrong : false ≡ true = c.if-not-has_no_address.ensures.1 none in
    cc

pub returns-in_default-clause-none : goal.returns-in_default-clause-none
returns-in_default-clause-none c =
    let line = c.args.line.now in
    λ others spells form board positional.
    let many = as_many others line.addresses.items line.names.items spells (form_text form ∷ board ∷ []) positional in
    omega (arith, many, ap length c.as_slice.ensures.value, c.in_default.len_below)

pub returns-then-not-is_empty-clause-none : goal.returns-then-not-is_empty-clause-none
returns-then-not-is_empty-clause-none c =
    let line = c.args.line.now in
    let names = c.as_slice.result.now in
    let rest = take (length names - 2) (drop 2 names) in
    let parts = two_fronts names c.form-item.result c.board-item.result c.in-len2-up.len_at_least c.form-item.is c.board-item.is in
    λ others spells form board positional.
    let many = as_many others line.addresses.items line.names.items spells (form_text form ∷ board ∷ []) positional in
    let none : length rest ≡ 0 = omega (arith, many, ap length c.as_slice.ensures.value, ap length parts) in
    let wrong : false ≡ true = sym c.if-not-is_empty.true ∙ c.is_empty.ensures ∙ ap (λ (n : ℕ). n == 0) none in
    cc

pub returns-in_err-form-clause-none : goal.returns-in_err-form-clause-none
returns-in_err-form-clause-none c =
    let line = c.args.line.now in
    let names = c.as_slice.result.now in
    let rest = take (length names - 2) (drop 2 names) in
    let parts = two_fronts names c.form-item.result c.board-item.result c.in-len2-up.len_at_least c.form-item.is c.board-item.is in
    rw c.from_residual.ensures (λ others spells form board positional.
    let given : c.form-item.result ∷ c.board-item.result ∷ rest ≡ form_text form ∷ board ∷ [] =
    sym parts ∙ c.as_slice.ensures.value ∙ the_names others line.addresses.items line.names.items spells (form_text form ∷ board ∷ []) positional in
    let word : c.form-item.result ≡ form_text form = cc in
    c.in_err-form.ensures.none form word)

pub returns-clause-some : goal.returns-clause-some
returns-clause-some c =
    let line = c.args.line.now in
    let names = c.as_slice.result.now in
    let rest = take (length names - 2) (drop 2 names) in
    let parts = two_fronts names c.form-item.result c.board-item.result c.in-len2-up.len_at_least c.form-item.is c.board-item.is in
    let none = nil_of rest (eqb-true (length rest) 0 (sym c.is_empty.ensures ∙ c.if-not-is_empty.false)) in
    let word = c.in_ok-form.ensures.some in
    λ others spells. names_alone others line.addresses.items line.names.items spells (c.if-not-has_no_address.ensures.0 refl)
    (form_text c.in_ok-form.form ∷ c.board-item.result ∷ [])
    (sym c.as_slice.ensures.value ∙ parts ∙ ap (λ (r : List (List ℕ)). c.form-item.result ∷ c.board-item.result ∷ r) none
    ∙ ap (λ (w : List ℕ). w ∷ c.board-item.result ∷ []) word)

pub returns-in_err-form-clause-some : goal.returns-in_err-form-clause-some
returns-in_err-form-clause-some c = grind (arith, common_steps)
