-- `calls_of_job`: what `calls_for` requires.
use Rattle.std.proofs.Common.{◌∙◌, IsTrue, List, [], ◌∷◌, Option, ap, subst}
use Rattle.std.specs.Borrow.{Bor}
use Rattle.board_file.specs.Shown.{shown as board_of}
use Rattle.flm_descriptor.specs.declared.algorithm.Algorithm.{Algorithm}
use Rattle.flm_descriptor.specs.Shown.{Shown as AlgorithmShown, shown as algorithm_of}
use Rattle.job_text.specs.Fits.{all_fit}
use Rattle.flash_session.specs.Starts.{later_shown}
use Rattle.flash_session.proofs.JobLemmas.{all_room, later_room}
use Rattle.flash_session.proofs.region_calls.calls_of_job.Goals as goal

pub calls_for-requires : goal.calls_for-requires
calls_for-requires c =
    let j = c.args.job.now in
    let a = algorithm_of c.algorithms_of.result.0.now in
    all_room (board_of j.board) j.board.regions a (later_shown c.algorithms_of.result.1)
    (subst (λ (l : List AlgorithmShown). IsTrue (all_fit (board_of j.board) j.board.regions l)) c.algorithms_of.ensures j.fit)

pub calls_for-requires-in-Some : goal.calls_for-requires-in-Some
calls_for-requires-in-Some c =
    let j = c.args.job.now in
    let a = algorithm_of c.algorithms_of.result.0.now in
    let b = algorithm_of c.in-Some.algorithm.now in
    later_room (board_of j.board) j.board.regions a b []
    (subst (λ (l : List AlgorithmShown). IsTrue (all_fit (board_of j.board) j.board.regions l))
    (c.algorithms_of.ensures ∙ ap (λ (o : Option (Bor Algorithm)). a ∷ later_shown o) c.in-Some.is) j.fit)
