-- `read_line`: its clauses `usage` and `ok`.
use Rattle.std.proofs.Common.{◌≤◌, ◌∙◌, option_map, length, sym, ap, rules}
use Rattle.clap.specs.Lexer.{usize_max}
use Rattle.command_line.specs.Rows.{asked}
use Rattle.command_line.specs.Shown.{shown}
use Rattle.command_line.proofs.Top.{asked_is, says_none}
use Rattle.command_line.proofs.line.read_line.Goals as goal

pub returns-in-Err-clause-usage : goal.returns-in-Err-clause-usage
returns-in-Err-clause-usage c =
    let fits : length c.args.words.now ≤ usize_max = search rules in
    λ e. says_none c.args.words.now c.know_texts.ensures fits (c.in-Err.ensures.usage e)

pub returns-in-Ok-Some-clause-ok : goal.returns-in-Ok-Some-clause-ok
returns-in-Ok-Some-clause-ok c =
    let fits : length c.args.words.now ≤ usize_max = search rules in
    let taken = c.in-Ok.ensures.taken in
    sym (asked_is c.args.words.now c.know_texts.ensures fits taken.0) ∙ ap asked (sym taken.1)
    ∙ sym c.in-Ok-Some.ensures ∙ ap (option_map shown) c.in-Ok-Some.field-0-is

pub returns-in-Ok-None-clause-usage : goal.returns-in-Ok-None-clause-usage
returns-in-Ok-None-clause-usage c =
    let fits : length c.args.words.now ≤ usize_max = search rules in
    let taken = c.in-Ok.ensures.taken in
    λ _. sym (asked_is c.args.words.now c.know_texts.ensures fits taken.0) ∙ ap asked (sym taken.1)
    ∙ sym c.in-Ok-None.ensures ∙ ap (option_map shown) c.in-Ok-None.field-0-is
