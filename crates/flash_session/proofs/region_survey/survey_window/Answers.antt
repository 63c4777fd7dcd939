-- `survey_window`: its clauses `bytes`, `wanted_bytes`, `spares`, `store` and `device`.
use Rattle.std.proofs.Common.{arith}
use Rattle.std.proofs.lemmas.Grind.{common_steps}
use Rattle.std.proofs.lemmas.Result.{err_from_is_err_and}
use Rattle.flash_session.proofs.region_survey.survey_window.Goals as goal

pub returns-in_err-read_window-clause-spares : goal.returns-in_err-read_window-clause-spares
returns-in_err-read_window-clause-spares g c =
    let p = err_from_is_err_and c.from_residual.result c.from_residual.ensures.1 in
    rw (p.1, p.2) c.in_err-read_window.ensures.spares

pub returns-in_err-read_window-clause-store : goal.returns-in_err-read_window-clause-store
returns-in_err-read_window-clause-store g c =
    let p = err_from_is_err_and c.from_residual.result c.from_residual.ensures.1 in
    rw (p.1, p.2) c.in_err-read_window.ensures.store

pub returns-in_err-read_window-clause-device : goal.returns-in_err-read_window-clause-device
returns-in_err-read_window-clause-device g c =
    let p = err_from_is_err_and c.from_residual.result c.from_residual.ensures.1 in
    rw (p.1, p.2) c.in_err-read_window.ensures.device

pub returns-clause-bytes : goal.returns-clause-bytes
returns-clause-bytes g c = c.feed.ensures.cells

pub returns-clause-wanted_bytes : goal.returns-clause-wanted_bytes
returns-clause-wanted_bytes g c = c.feed.ensures.wanted

pub feed-requires-clause-making : goal.feed-requires-clause-making
feed-requires-clause-making g c = grind (arith, common_steps)

pub feed-requires-clause-same : goal.feed-requires-clause-same
feed-requires-clause-same g c = grind (arith, common_steps)
