-- `lay`: that it keeps its contract, and what `overlay` requires.
use Rattle.std.proofs.Common.{◌≤◌, ◌+◌, ◌∙◌, All, List, length, take, drop, sym, ap, subst, arith}
use Rattle.board_file.specs.declared.region.Region.{Region}
use Rattle.board_file.specs.Limits.{size_of}
use Rattle.board_file.specs.Shown.{shown as board_of}
use Rattle.board_file.specs.Table.{addresses}
use Rattle.flash_session.specs.declared.goal.Goal.{Goal}
use Rattle.flash_session.specs.Goals.{laid}
use Rattle.job_text.specs.Laid.{overlaid}
use Rattle.flash_session.proofs.JobLemmas.{fits_end}
use Rattle.flash_session.proofs.goal.lay.Goals as goal

pub overlay-requires-clause-range : goal.overlay-requires-clause-range
overlay-requires-clause-range c = omega (arith, c.requires, ap (λ (rs : List Region). size_of rs) c.as_slice.ensures)

pub overlay-requires-clause-fit : goal.overlay-requires-clause-fit
overlay-requires-clause-fit c =
    let j = c.args.job.now in
    subst (λ (rs : List Region). All (λ r. r.base + r.size ≤ addresses) rs) (sym c.as_slice.ensures)
    (fits_end (board_of j.board) j.board.regions j.algorithms j.fit)

pub returns-in-New : goal.returns-in-New
returns-in-New c = λ snapshot long is.
    let j = c.args.job.now in
    let n = length c.args.cells.now in
    c.overlay.ensures snapshot (long ∙ ap (λ (rs : List Region). size_of rs) (sym c.as_slice.ensures)) is
    ∙ ap (λ (rs : List Region). take n (drop c.args.at (overlaid j.image rs snapshot))) c.as_slice.ensures
    ∙ ap (λ (g : Goal). take n (drop c.args.at (laid j g snapshot))) (sym c.in-New.is)
