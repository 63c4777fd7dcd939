-- `only_name`: its clauses `none` and `some`.
use Rattle.std.proofs.Common.{◌≡◌, ◌==◌, ◌-◌, ◌∙◌, true, false, refl, sym, ap, arith, ℕ, List, length, take, drop, [], ◌∷◌}
use Rattle.std.proofs.lemmas.Bool.{eqb-true}
use Rattle.command_words.proofs.FitLemmas.{names_alone, no_address, as_many, one_front, nil_of}
use Rattle.command_words.proofs.fit.only_name.Goals as goal

pub returns-then-not-has_no_address-clause-none : goal.returns-then-not-has_no_address-clause-none
returns-then-not-has_no_address-clause-none c =
    let line = c.args.line.now in
    λ others spells name positional.
    let none = no_address others line.addresses.items line.names.items spells (name ∷ []) positional in
    let wrong : false ≡ true = c.if-not-has_no_address.ensures.1 none in
    cc

pub returns-in_default-clause-none : goal.returns-in_default-clause-none
returns-in_default-clause-none c =
    let line = c.args.line.now in
    λ others spells name positional.
    let many = as_many others line.addresses.items line.names.items spells (name ∷ []) positional in
    omega (arith, many, ap length c.as_slice.ensures.value, c.in_default.len_below)

pub returns-then-not-is_empty-clause-none : goal.returns-then-not-is_empty-clause-none
returns-then-not-is_empty-clause-none c =
    let line = c.args.line.now in
    let names = c.as_slice.result.now in
    let rest = take (length names - 1) (drop 1 names) in
    let parts = one_front names c.name-item.result c.in-len1-up.len_at_least c.name-item.is in
    λ others spells name positional.
    let many = as_many others line.addresses.items line.names.items spells (name ∷ []) positional in
    let none : length rest ≡ 0 = omega (arith, many, ap length c.as_slice.ensures.value, ap length parts) in
    let wrong : false ≡ true = sym c.if-not-is_empty.true ∙ c.is_empty.ensures ∙ ap (λ (n : ℕ). n == 0) none in
    cc

pub returns-clause-some : goal.returns-clause-some
returns-clause-some c =
    let line = c.args.line.now in
    let names = c.as_slice.result.now in
    let rest = take (length names - 1) (drop 1 names) in
    let parts = one_front names c.name-item.result c.in-len1-up.len_at_least c.name-item.is in
    let none = nil_of rest (eqb-true (length rest) 0 (sym c.is_empty.ensures ∙ c.if-not-is_empty.false)) in
    λ others spells. names_alone others line.addresses.items line.names.items spells (c.if-not-has_no_address.ensures.0 refl) (c.name-item.result ∷ [])
    (sym c.as_slice.ensures.value ∙ parts ∙ ap (λ (r : List (List ℕ)). c.name-item.result ∷ r) none)
