-- `Table::fills`: that it keeps its contract, and what `find` requires.
use Rattle.std.proofs.Common.{◌≡◌, ◌∙◌, [], arith, sym}
use Rattle.duty_table.proofs.TableLemmas.{all_filled, no_such, ok_so}
use Rattle.duty_table.proofs.table.Table.fills.Goals as goal

pub find-requires-2-clause-loaded : goal.find-requires-2-clause-loaded
find-requires-2-clause-loaded c = rw c.in_ok-states.ensures.subject c.requires

pub find-requires-3-clause-loaded : goal.find-requires-3-clause-loaded
find-requires-3-clause-loaded c = rw (c.in_ok-states-2.ensures.subject ∙ c.in_ok-states.ensures.subject) c.requires

pub returns-then-not-has : goal.returns-then-not-has
returns-then-not-has c =
    let t = c.args.self.now.subject.now in
    let first = c.in_ok-states.ensures.subject in
    let second = c.in_ok-states-2.ensures.subject ∙ first in
    let erases = ok_so _ _ _ c.in-Ok.is c.in_ok-states.ensures.fills in
    let programs' = ok_so _ _ _ c.in-Ok-2.is c.in_ok-states-2.ensures.fills in
    let programs = rw first at programs' in
    let empty : t.algorithm.now.device.empty ≡ 0xFF = omega arith in
    let has = c.has.ensures in
    let told = rw second at has in
    all_filled t empty c.in-Ok.states.items c.in-Ok-2.states.items [] erases programs
    (λ is. no_such _ (sym c.if-not-has.true ∙ told.1 is))

pub returns-in-Ok-3 : goal.returns-in-Ok-3
returns-in-Ok-3 c =
    let t = c.args.self.now.subject.now in
    let first = c.in_ok-states.ensures.subject in
    let second = c.in_ok-states-2.ensures.subject ∙ first in
    let erases = ok_so _ _ _ c.in-Ok.is c.in_ok-states.ensures.fills in
    let programs' = ok_so _ _ _ c.in-Ok-2.is c.in_ok-states-2.ensures.fills in
    let programs = rw first at programs' in
    let verifies' = ok_so _ _ _ c.in-Ok-3.is c.in_ok-_verifying.ensures.fills in
    let verifies = rw second at verifies' in
    let empty : t.algorithm.now.device.empty ≡ 0xFF = omega arith in
    all_filled t empty c.in-Ok.states.items c.in-Ok-2.states.items c.in-Ok-3._verifying.items erases programs (λ has. verifies)
