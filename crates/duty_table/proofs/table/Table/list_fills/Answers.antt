-- `Table::list_fills`: its clause `fills`, and what `works_fill` requires.
use Rattle.std.proofs.Common.{◌∙◌}
use Rattle.duty_table.proofs.LastLemmas.{list_fills, none_so, ok_none}
use Rattle.duty_table.proofs.table.Table.list_fills.Goals as goal

pub works_fill-requires : goal.works_fill-requires
works_fill-requires c = rw c.in_ok-init_fills.ensures.subject c.requires.function

pub returns-clause-fills : goal.returns-clause-fills
returns-clause-fills c =
    let first = c.in_ok-init_fills.ensures.subject in
    let second = c.in_ok-works_fill.ensures.subject ∙ first in
    let third = c.in_ok-chip_fills.ensures.subject ∙ second in
    let init = none_so _ _ c.in-None.is c.in_ok-init_fills.ensures.fills in
    let works' = none_so _ _ c.in-None-2.is c.in_ok-works_fill.ensures.fills in
    let works = rw first at works' in
    let chip' = none_so _ _ c.in-None-3.is c.in_ok-chip_fills.ensures.fills in
    let chip = rw second at chip' in
    ok_none c.ends_fill.result _ _ (λ ends. list_fills c.args.self.now.subject.now c.args.work c.args.states.now init works chip (rw third at ends))
    c.ends_fill.ensures.fills
