-- `read_setting`: that it keeps its contract.
use Rattle.std.proofs.Common.{◌≡◌, arith}
use Rattle.std.proofs.lemmas.Grind.{elements}
use Rattle.command_words.specs.Words.{IsDecimal}
use Rattle.flm_check.specs.Words.{rounds_name}
use Rattle.flm_check.proofs.WordLemmas.{rounds_read, rounds_unread}
use Rattle.flm_check.proofs.words.read_setting.Goals as goal

pub returns-in-45-clause-some : goal.returns-in-45-clause-some
returns-in-45-clause-some c = grind (arith, elements)

pub returns-in-45-2-clause-some : goal.returns-in-45-2-clause-some
returns-in-45-2-clause-some c =
    let is : c.args.name.now ≡ rounds_name = grind (arith, elements) in
    let decimal : IsDecimal c.args.value.now c.in_ok-number.number = grind (arith, elements) in
    rounds_read c.args.name.now c.args.value.now c.in_ok-number.number c.read_rounds.result is decimal c.read_rounds.ensures.some

pub returns-in-45-2-clause-none : goal.returns-in-45-2-clause-none
returns-in-45-2-clause-none c =
    let is : c.args.name.now ≡ rounds_name = grind (arith, elements) in
    let decimal : IsDecimal c.args.value.now c.in_ok-number.number = grind (arith, elements) in
    rounds_unread c.args.name.now c.args.value.now c.in_ok-number.number c.read_rounds.result is decimal c.read_rounds.ensures.none
