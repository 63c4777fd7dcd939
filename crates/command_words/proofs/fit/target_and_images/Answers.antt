-- `target_and_images`: its clauses `none` and `some`.
use Rattle.std.proofs.Common.{◌≡◌, ◌∙◌, ◌-◌, true, false, refl, sym, ap, subst, arith, ℕ, List, length, take, drop}
use Rattle.command_words.specs.Lines.{Gives}
use Rattle.command_words.proofs.FitLemmas.{target_without_address, no_target, many_target_images, target_fits, two_fronts}
use Rattle.command_words.proofs.fit.target_and_images.Goals as goal

pub returns-in_err-raw_at-clause-none : goal.returns-in_err-raw_at-clause-none
returns-in_err-raw_at-clause-none c =
    let line = c.args.line.now in
    rw c.from_residual.ensures (λ others spells. target_without_address others line.addresses.items line.names.items spells
    (λ at gives. c.in_err-raw_at.ensures.none at (subst (λ (a : List (List ℕ)). Gives a at) (sym c.deref.ensures.value) gives)))

pub returns-in_default-clause-none : goal.returns-in_default-clause-none
returns-in_default-clause-none c =
    let line = c.args.line.now in
    λ others spells. no_target others line.addresses.items line.names.items spells
    (omega (arith, ap length c.as_slice.ensures.value, c.in_default.len_below))

pub returns-then-not-are_few-clause-none : goal.returns-then-not-are_few-clause-none
returns-then-not-are_few-clause-none c =
    let line = c.args.line.now in
    let raw_at = c.in_ok-raw_at.raw_at in
    let gives = subst (λ (a : List (List ℕ)). Gives a raw_at) c.deref.ensures.value c.in_ok-raw_at.ensures.some in
    let names = c.as_slice.result.now in
    let images = take (length names - 2) (drop 2 names) in
    let parts = two_fronts names c.board-item.result c.flm-item.result c.in-len2-up.len_at_least c.board-item.is c.flm-item.is in
    λ others spells. many_target_images others line.addresses.items line.names.items spells raw_at (length images) gives
    (omega (arith, ap length c.as_slice.ensures.value, ap length parts))
    (λ few. let wrong : false ≡ true = c.if-not-are_few.ensures.1 few in cc)

pub returns-clause-some : goal.returns-clause-some
returns-clause-some c =
    let line = c.args.line.now in
    let raw_at = c.in_ok-raw_at.raw_at in
    let gives = subst (λ (a : List (List ℕ)). Gives a raw_at) c.deref.ensures.value c.in_ok-raw_at.ensures.some in
    let names = c.as_slice.result.now in
    let images = take (length names - 2) (drop 2 names) in
    λ others spells. target_fits others line.addresses.items line.names.items spells raw_at c.board-item.result c.flm-item.result images gives
    (sym c.as_slice.ensures.value ∙ two_fronts names c.board-item.result c.flm-item.result c.in-len2-up.len_at_least c.board-item.is c.flm-item.is)
    (c.if-not-are_few.ensures.0 refl)
