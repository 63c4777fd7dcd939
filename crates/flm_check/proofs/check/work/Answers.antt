-- `work`: its contract, `Works`, and what it calls asks for.
use Rattle.std.proofs.Common.{◌∙◌, sym, ap, subst, arith, refl, List, map}
use Rattle.std.specs.Vec.{vec_len}
use Rattle.std.proofs.lemmas.List.{length-map}
use Rattle.std.proofs.lemmas.Option.{slice_get_within}
use Rattle.std.proofs.lemmas.Result.{err_from_is_err_and}
use Rattle.board_file.specs.Shown as board
use Rattle.flm_descriptor.specs.Shown as flm
use Rattle.flm_descriptor.specs.declared.algorithm.Algorithm.{Algorithm}
use Rattle.report_text.specs.Shown.{shown}
use Rattle.command_files.specs.Inputs.{inputs_call}
use Rattle.command_files.proofs.TakeLemmas.{none_failed_here}
use Rattle.command_files.specs.Call.{sink_call}
use Rattle.duty_rounds.specs.Verdicts.{AreFit, IsTrueOf}
use Rattle.flm_check.specs.Requested.{asked_of}
use Rattle.flm_check.specs.BoardAlgorithms.{flms_in}
use Rattle.flm_check.proofs.BoardAlgorithmsLemmas.{are_fit}
use Rattle.flm_check.proofs.EndLemmas.{claims_of, inside, works_cut, works_done, works_unfit, works_untaken, works_without_memory}
use Rattle.flm_check.proofs.check.work.Goals as goal

pub take_board_algorithms-requires-clause-has_flm : goal.take_board_algorithms-requires-clause-has_flm
take_board_algorithms-requires-clause-has_flm g c = c.in-Some.ensures.some.has_flm

pub take_board_algorithms-requires-clause-may_take : goal.take_board_algorithms-requires-clause-may_take
take_board_algorithms-requires-clause-may_take g c = c.requires (asked_of c.in-Some.request) c.in-Some.ensures.some

pub judge-requires : goal.judge-requires
judge-requires g c =
    let given = c.in_ok-checked.ensures.given in
    let b = board.shown c.in_ok-checked.checked.board in
    subst (λ (l : List Algorithm). AreFit b (map flm.shown l)) (sym c.as_slice.ensures.value)
    (are_fit b (flms_in given.files) (map flm.shown c.in_ok-checked.checked.algorithms.items) given.holds.are_for)

pub answer_of-requires-clause-fit : goal.answer_of-requires-clause-fit
answer_of-requires-clause-fit g c =
    let given = c.in_ok-checked.ensures.given in
    are_fit (board.shown c.in_ok-checked.checked.board) (flms_in given.files) (map flm.shown c.in_ok-checked.checked.algorithms.items) given.holds.are_for

pub answer_of-requires-clause-inside : goal.answer_of-requires-clause-inside
answer_of-requires-clause-inside g c =
    let items = c.in_ok-checked.checked.algorithms.items in
    let b = board.shown c.in_ok-checked.checked.board in
    inside b (map flm.shown items) (vec_len c.in_ok-checked.checked.algorithms) c.in_ok-report.report.verdict
    (λ k a is. omega (arith, slice_get_within (map flm.shown items) k a is, length-map items flm.shown, c.in_ok-checked.checked.algorithms.ok.0))
    (subst (λ (l : List Algorithm). IsTrueOf b (map flm.shown l) c.in_ok-report.report.verdict) c.as_slice.ensures.value c.in_ok-report.ensures.says)

pub returns-in_default : goal.returns-in_default
returns-in_default g c =
    works_unfit c.args.words.now (inputs_call g.I.Inputs.tells (g.I.Inputs.state c.args.inputs.now) (g.I.Inputs.state c.args.inputs.now)) g.O.Sink.tells
    (g.O.Sink.state c.args.out.now) _ refl c.in_default.ensures.none (none_failed_here g.I.Inputs.tells (g.I.Inputs.state c.args.inputs.now))

pub returns-in_err-checked : goal.returns-in_err-checked
returns-in_err-checked g c =
    let p = err_from_is_err_and c.from_residual.result c.from_residual.ensures.1 in
    rw (p.1, p.2) (works_untaken c.args.words.now (inputs_call g.I.Inputs.tells (g.I.Inputs.state c.args.inputs.now)
    (g.I.Inputs.state c.take_board_algorithms.new.inputs))
    g.O.Sink.tells (g.O.Sink.state c.args.out.now) (asked_of c.in-Some.request) c.in_err-checked.field-0.0 c.in-Some.ensures.some c.in_err-checked.ensures)

pub returns-in_err-report : goal.returns-in_err-report
returns-in_err-report g c =
    let p = err_from_is_err_and c.from_residual-in_err-report.result c.from_residual-in_err-report.ensures.1 in
    rw p.1 (works_without_memory c.args.words.now (inputs_call g.I.Inputs.tells (g.I.Inputs.state c.args.inputs.now)
    (g.I.Inputs.state c.take_board_algorithms.new.inputs))
    g.O.Sink.tells (g.O.Sink.state c.args.out.now) p.0 (ap shown p.2) c.in_ok-checked.ensures.none_failed)

pub returns-in_err-answer : goal.returns-in_err-answer
returns-in_err-answer g c =
    let p = err_from_is_err_and c.from_residual-in_err-answer.result c.from_residual-in_err-answer.ensures.1 in
    rw p.1 (works_without_memory c.args.words.now (inputs_call g.I.Inputs.tells (g.I.Inputs.state c.args.inputs.now)
    (g.I.Inputs.state c.take_board_algorithms.new.inputs))
    g.O.Sink.tells (g.O.Sink.state c.args.out.now) p.0 (ap shown p.2) c.in_ok-checked.ensures.none_failed)

pub returns-in_err-put : goal.returns-in_err-put
returns-in_err-put g c =
    let b = board.shown c.in_ok-checked.checked.board in
    let items = c.in_ok-checked.checked.algorithms.items in
    let v = c.in_ok-report.report.verdict in
    let took = c.in_ok-checked.ensures in
    let puts = c.in_err-put.ensures in
    let p = err_from_is_err_and c.from_residual-in_err-put.result c.from_residual-in_err-put.ensures.1 in
    rw p.1 (works_cut c.args.words.now (inputs_call g.I.Inputs.tells (g.I.Inputs.state c.args.inputs.now) (g.I.Inputs.state c.take_board_algorithms.new.inputs))
    (sink_call g.O.Sink.tells (g.O.Sink.state c.args.out.now) (g.O.Sink.state c.put.new.out)) (asked_of c.in-Some.request) p.0
    c.in_ok-answer.answer.ending c.as_bytes.result.now (ap shown p.2) c.in-Some.ensures.some
    (record {
      given = record {
        files = took.given.files;
        are_files = took.given.are_files;
        holds = claims_of took.given.files b (map flm.shown items) v c.in_ok-answer.answer.ending took.given.holds
            (subst (λ (l : List Algorithm). IsTrueOf b (map flm.shown l) v) c.as_slice.ensures.value c.in_ok-report.ensures.says)
            (λ a only on. c.in_ok-report.ensures.proved a (ap (λ (l : List Algorithm). map flm.shown l) c.as_slice.ensures.value ∙ only) on)
            c.in_ok-answer.ensures;
      };
      none_failed = took.none_failed;
    })
    (record { taken = puts.err; later = puts.cause.later; rose = puts.cause.on_fault refl }))

pub returns : goal.returns
returns g c =
    let b = board.shown c.in_ok-checked.checked.board in
    let items = c.in_ok-checked.checked.algorithms.items in
    let v = c.in_ok-report.report.verdict in
    let took = c.in_ok-checked.ensures in
    let puts = c.in_ok-put.ensures in
    works_done c.args.words.now (inputs_call g.I.Inputs.tells (g.I.Inputs.state c.args.inputs.now) (g.I.Inputs.state c.take_board_algorithms.new.inputs))
    (sink_call g.O.Sink.tells (g.O.Sink.state c.args.out.now) (g.O.Sink.state c.put.new.out)) (asked_of c.in-Some.request) c.in_ok-answer.answer.ending
    c.as_bytes.result.now
    c.in-Some.ensures.some
    (record {
      given = record {
        files = took.given.files;
        are_files = took.given.are_files;
        holds = claims_of took.given.files b (map flm.shown items) v c.in_ok-answer.answer.ending took.given.holds
            (subst (λ (l : List Algorithm). IsTrueOf b (map flm.shown l) v) c.as_slice.ensures.value c.in_ok-report.ensures.says)
            (λ a only on. c.in_ok-report.ensures.proved a (ap (λ (l : List Algorithm). map flm.shown l) c.as_slice.ensures.value ∙ only) on)
            c.in_ok-answer.ensures;
      };
      none_failed = took.none_failed;
    })
    (record { taken = puts.ok; faults = puts.cause.on_ok refl })
