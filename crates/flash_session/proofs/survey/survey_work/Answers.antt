-- `survey_work`: its clauses `found`, `reads`, `store` and `device`, and what `survey_part` requires.
use Rattle.std.proofs.Common.{◌∙◌, IsTrue, false, List, [], ◌∷◌, Option, refl, sym, ap, subst, arith}
use Rattle.std.proofs.lemmas.Grind.{common_steps}
use Rattle.std.specs.Borrow.{Bor}
use Rattle.std.proofs.lemmas.Result.{err_from_is_err_and}
use Rattle.board_file.specs.Shown.{shown as board_of}
use Rattle.flm_descriptor.specs.declared.algorithm.Algorithm.{Algorithm}
use Rattle.flm_descriptor.specs.Shown.{Shown as AlgorithmShown, shown as algorithm_of}
use Rattle.job_text.specs.Fits.{all_fit}
use Rattle.job_text.specs.Stands.{StandsFor}
use Rattle.bench_model.proofs.CountLemmas.{counted_then}
use Rattle.bench_model.specs.Counted.{is_store_fault, is_device_fault}
use Rattle.flash_session.specs.Found.{AreFound}
use Rattle.flash_session.specs.Goals.{goal_in}
use Rattle.flash_session.specs.Starts.{later_shown}
use Rattle.flash_session.specs.declared.fault.SurveyFault.{SurveyFault}
use Rattle.flash_session.specs.declared.region_plan.SessionWork.{SessionWork}
use Rattle.flash_session.proofs.FoundLemmas.{found_then, later_still, refused, handed}
use Rattle.flash_session.proofs.ReadLemmas.{read_then}
use Rattle.flash_session.proofs.JobLemmas.{sizes_are}
use Rattle.flash_session.proofs.survey.survey_work.Goals as goal

pub survey_part-requires-clause-inside : goal.survey_part-requires-clause-inside
survey_part-requires-clause-inside g c =
    let j = c.args.job.now in
    let a = algorithm_of c.algorithms_of.result.0.now in
    let rest = later_shown c.algorithms_of.result.1 in
    omega (
      arith,
      sizes_are (board_of j.board) j.board.regions (a ∷ rest)
          (subst (λ (l : List AlgorithmShown). IsTrue (all_fit (board_of j.board) j.board.regions l)) c.algorithms_of.ensures j.fit),
    )

pub survey_part-requires-2-clause-inside : goal.survey_part-requires-2-clause-inside
survey_part-requires-2-clause-inside g c =
    let j = c.args.job.now in
    let a = algorithm_of c.algorithms_of.result.0.now in
    let both = c.algorithms_of.ensures ∙ ap (λ (o : Option (Bor Algorithm)). a ∷ later_shown o) c.in-Some.is in
    omega (
      arith,
      sizes_are (board_of j.board) j.board.regions (a ∷ algorithm_of c.in-Some.other.now ∷ [])
          (subst (λ (l : List AlgorithmShown). IsTrue (all_fit (board_of j.board) j.board.regions l)) both j.fit),
    )

pub returns-clause-found : goal.returns-clause-found
returns-clause-found g c =
    let tells = g.B.Bench.tells in
    let j = c.args.job.now in
    let s = g.B.Bench.state c.args.bench.now in
    let t = g.B.Bench.state c.survey_part.new.bench in
    let wanted = goal_in j c.args.goal s.file in
    let a = algorithm_of c.algorithms_of.result.0.now in
    let rest = algorithm_of c.in-Some.other.now ∷ [] in
    let first = c.in_ok-first.first in
    let second = c.in_ok-second.second in
    let reads = c.survey_part.ensures.reads in
    let later = later_still tells j a.device.size rest t.cells s.cells (goal_in j c.args.goal t.file) wanted (second ∷ []) (λ told. reads.cells.cells told)
    (λ told. ap (goal_in j c.args.goal) (reads.file.file told)) (c.in_ok-second.ensures.found, tt) in
    let all : AreFound tells j 0 (a ∷ rest) s.cells wanted (first ∷ second ∷ []) =
    found_then tells j a rest s.cells wanted first (second ∷ []) c.in_ok-first.ensures.found later in
    let both = c.algorithms_of.ensures ∙ ap (λ (o : Option (Bor Algorithm)). a ∷ later_shown o) c.in-Some.is in
    subst (λ (l : List AlgorithmShown). AreFound tells j 0 l s.cells wanted (first ∷ second ∷ [])) (sym both) all

pub returns-clause-reads : goal.returns-clause-reads
returns-clause-reads g c = read_then c.survey_part.ensures.reads c.survey_part-2.ensures.reads

pub returns-in_err-first-clause-store : goal.returns-in_err-first-clause-store
returns-in_err-first-clause-store g c =
    let p = err_from_is_err_and c.from_residual.result c.from_residual.ensures.1 in
    handed is_store_fault SessionWork _ _ _ c.in_err-first.field-0.0 (p.1 ∙ ap (λ (e : SurveyFault). refused SessionWork e) p.2) c.in_err-first.ensures.store

pub returns-in_err-first-clause-device : goal.returns-in_err-first-clause-device
returns-in_err-first-clause-device g c =
    let p = err_from_is_err_and c.from_residual.result c.from_residual.ensures.1 in
    handed is_device_fault SessionWork _ _ _ c.in_err-first.field-0.0 (p.1 ∙ ap (λ (e : SurveyFault). refused SessionWork e) p.2) c.in_err-first.ensures.device

pub returns-in_err-second-clause-reads : goal.returns-in_err-second-clause-reads
returns-in_err-second-clause-reads g c = read_then c.survey_part.ensures.reads c.survey_part-2.ensures.reads

pub returns-in_err-second-clause-store : goal.returns-in_err-second-clause-store
returns-in_err-second-clause-store g c =
    let p = err_from_is_err_and c.from_residual-in_err-second.result c.from_residual-in_err-second.ensures.1 in
    handed is_store_fault SessionWork _ _ _ c.in_err-second.field-0.0 (p.1 ∙ ap (λ (e : SurveyFault). refused SessionWork e) p.2)
    (counted_then _ _ _ false _ refl c.in_ok-first.ensures.store c.in_err-second.ensures.store)

pub returns-in_err-second-clause-device : goal.returns-in_err-second-clause-device
returns-in_err-second-clause-device g c =
    let p = err_from_is_err_and c.from_residual-in_err-second.result c.from_residual-in_err-second.ensures.1 in
    handed is_device_fault SessionWork _ _ _ c.in_err-second.field-0.0 (p.1 ∙ ap (λ (e : SurveyFault). refused SessionWork e) p.2)
    (counted_then _ _ _ false _ refl c.in_ok-first.ensures.device c.in_err-second.ensures.device)

pub returns-clause-store : goal.returns-clause-store
returns-clause-store g c = counted_then _ _ _ false _ refl c.in_ok-first.ensures.store c.in_ok-second.ensures.store

pub returns-clause-device : goal.returns-clause-device
returns-clause-device g c = counted_then _ _ _ false _ refl c.in_ok-first.ensures.device c.in_ok-second.ensures.device

pub survey_part-requires-2-clause-stands : goal.survey_part-requires-2-clause-stands
survey_part-requires-2-clause-stands g c = λ told.
    subst (StandsFor c.args.job.now) (sym (c.survey_part.ensures.reads.file.file told)) (c.requires.stands told)

pub returns-in_default-clause-found : goal.returns-in_default-clause-found
returns-in_default-clause-found g c = grind (arith, common_steps)
