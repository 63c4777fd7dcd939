-- `read_options`: its clauses `some` and `none`.
use Rattle.std.proofs.Common.{subst, arith, ℕ, List}
use Rattle.std.proofs.lemmas.Grind.{common_steps}
use Rattle.flm_check.specs.Words.{AreOptions}
use Rattle.flm_check.proofs.WordLemmas.{two_words, four_words, options_one, no_first, no_second, both_some, both_none}
use Rattle.flm_check.proofs.words.read_options.Goals as goal

pub returns-in_err-read_setting-in-len2-clause-none : goal.returns-in_err-read_setting-in-len2-clause-none
returns-in_err-read_setting-in-len2-clause-none c =
    let name = c.name-item.result in
    let word = c.value-item.result in
    let all = two_words c.args.options.now name word (omega (arith, c.in-len2.len_at_least, c.in-len2.len_below)) c.name-item.is c.value-item.is in
    rw c.from_residual.ensures (λ seed rounds are.
    options_one name word c.in_err-read_setting-in-len2.ensures.none seed rounds (subst (λ (o : List (List ℕ)). AreOptions o seed rounds) all are))

pub returns-in_err-one-in-len4-clause-none : goal.returns-in_err-one-in-len4-clause-none
returns-in_err-one-in-len4-clause-none c =
    let name = c.name-item-then-options-lt5.result in
    let word = c.value-item-then-options-lt5.result in
    let other_name = c.other_name-item.result in
    let other_word = c.other_value-item.result in
    let all = four_words c.args.options.now name word other_name other_word (omega (arith, c.in-len4.len_at_least, c.in-len4.len_below))
    c.name-item-then-options-lt5.is c.value-item-then-options-lt5.is c.other_name-item.is c.other_value-item.is in
    rw c.from_residual-in_err-one-in-len4.ensures (λ seed rounds are.
    no_first name word other_name other_word c.in_err-one-in-len4.ensures.none seed rounds
    (subst (λ (o : List (List ℕ)). AreOptions o seed rounds) all are))

pub returns-in_err-other-in-len4-clause-none : goal.returns-in_err-other-in-len4-clause-none
returns-in_err-other-in-len4-clause-none c =
    let name = c.name-item-then-options-lt5.result in
    let word = c.value-item-then-options-lt5.result in
    let other_name = c.other_name-item.result in
    let other_word = c.other_value-item.result in
    let all = four_words c.args.options.now name word other_name other_word (omega (arith, c.in-len4.len_at_least, c.in-len4.len_below))
    c.name-item-then-options-lt5.is c.value-item-then-options-lt5.is c.other_name-item.is c.other_value-item.is in
    rw c.from_residual-in_err-other-in-len4.ensures (λ seed rounds are.
    no_second name word other_name other_word c.in_err-other-in-len4.ensures.none seed rounds
    (subst (λ (o : List (List ℕ)). AreOptions o seed rounds) all are))

pub returns-in_ok-other-in-len4-clause-some : goal.returns-in_ok-other-in-len4-clause-some
returns-in_ok-other-in-len4-clause-some c =
    let name = c.name-item-then-options-lt5.result in
    let word = c.value-item-then-options-lt5.result in
    let other_name = c.other_name-item.result in
    let other_word = c.other_value-item.result in
    let all = four_words c.args.options.now name word other_name other_word (omega (arith, c.in-len4.len_at_least, c.in-len4.len_below))
    c.name-item-then-options-lt5.is c.value-item-then-options-lt5.is c.other_name-item.is c.other_value-item.is in
    both_some name word other_name other_word c.args.options.now c.in_ok-one-in-len4.one c.in_ok-other-in-len4.other c.rounds_of_both.result all
    c.in_ok-one-in-len4.ensures.some c.in_ok-other-in-len4.ensures.some c.rounds_of_both.ensures.some

pub returns-in_ok-other-in-len4-clause-none : goal.returns-in_ok-other-in-len4-clause-none
returns-in_ok-other-in-len4-clause-none c =
    let name = c.name-item-then-options-lt5.result in
    let word = c.value-item-then-options-lt5.result in
    let other_name = c.other_name-item.result in
    let other_word = c.other_value-item.result in
    let all = four_words c.args.options.now name word other_name other_word (omega (arith, c.in-len4.len_at_least, c.in-len4.len_below))
    c.name-item-then-options-lt5.is c.value-item-then-options-lt5.is c.other_name-item.is c.other_value-item.is in
    both_none name word other_name other_word c.args.options.now c.in_ok-one-in-len4.one c.in_ok-other-in-len4.other c.rounds_of_both.result all
    c.in_ok-one-in-len4.ensures.some c.in_ok-other-in-len4.ensures.some c.rounds_of_both.ensures.none

pub returns-in_ok-read_setting-in-len2-clause-some : goal.returns-in_ok-read_setting-in-len2-clause-some
returns-in_ok-read_setting-in-len2-clause-some c = grind (arith, common_steps)
