-- `has_no_name`: its contract, `Positional`.
use Rattle.std.proofs.lemmas.Grind.{common_steps}
use Rattle.std.proofs.Common.{◌≡◌, ◌==◌, ◌∙◌, sym, ap, rules, ℕ, length, [], arith}
use Rattle.std.proofs.lemmas.Bool.{eqb-true}
use Rattle.std.specs.Vec.{vec_len}
use Rattle.command_words.proofs.FitLemmas.{names_alone, as_many, nil_of}
use Rattle.command_words.proofs.fit.has_no_name.Goals as goal

pub returns-then-is_empty : goal.returns-then-is_empty
returns-then-is_empty c =
    let line = c.args.line.now in
    let none : length line.addresses.items ≡ 0 = search rules in
    let count : length line.names.items ≡ vec_len line.names = search rules in
    λ others spells. (
      (λ yes. names_alone others line.addresses.items line.names.items spells none []
          (nil_of line.names.items (count ∙ eqb-true (vec_len line.names) 0 (sym c.is_empty-then-is_empty.ensures ∙ yes)))),
      (λ positional. c.is_empty-then-is_empty.ensures
          ∙ ap (λ (n : ℕ). n == 0) (sym count ∙ as_many others line.addresses.items line.names.items spells [] positional)),
    )

pub returns-else-is_empty : goal.returns-else-is_empty
returns-else-is_empty c = grind (arith, common_steps)
