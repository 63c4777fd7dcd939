-- `algorithms_of`: that it keeps its contract, and that an arm is never reached.
use Rattle.std.proofs.Common.{◌∙◌, List, length, sym, ap, arith}
use Rattle.board_file.specs.Shown.{shown as board_of}
use Rattle.flm_descriptor.specs.declared.algorithm.Algorithm.{Algorithm}
use Rattle.flash_session.proofs.JobLemmas.{split_shown, shown_count}
use Rattle.flash_session.proofs.region_calls.algorithms_of.Goals as goal

pub unreachable-requires : goal.unreachable-requires
unreachable-requires c =
    let j = c.args.job.now in
    let count = shown_count (board_of j.board) j.board.regions j.algorithms j.fit in
    let none = c.in-None.ensures.cases in
    let same = ap (λ (l : List Algorithm). length l) c.as_slice.ensures in
    absurd (omega (arith, count, none, same, j.board.some_region))

pub returns : goal.returns
returns c =
    let j = c.args.job.now in
    let count = shown_count (board_of j.board) j.board.regions j.algorithms j.fit in
    let same = ap (λ (l : List Algorithm). length l) c.as_slice.ensures in
    let cases = c.in-Some.ensures.cases in
    split_shown j.algorithms c.in-Some.one.now c.in-Some.rest.now c.first.result (sym c.as_slice.ensures ∙ cases.0)
    (omega (arith, cases.1, same, count, j.board.few_regions)) (c.first.ensures.item.0, c.first.ensures.item.1)
