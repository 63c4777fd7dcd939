-- `take_files`: its clauses `takes` and `short`, and what `take_one`, `take_optional` and `take_each` require.
use Rattle.std.proofs.Common.{◌∙◌, arith, ◌∷◌, [], ◌++◌, option_to_list}
use Rattle.std.proofs.lemmas.Result.{err_from_is_err_and}
use Rattle.std.proofs.lemmas.List.Elements.{All-head, All-tail, All-weaker}
use Rattle.report_text.specs.Shown.{shown}
use Rattle.command_words.specs.Requested.{files_of}
use Rattle.command_files.specs.Inputs.{inputs_call}
use Rattle.command_files.proofs.TakeLemmas.{all_front, all_back, each_earlier, fault_before, fault_behind, none_failed_then}
use Rattle.command_files.proofs.take.take_files.Goals as goal

pub take_one-requires : goal.take_one-requires
take_one-requires g c =
    let asked = files_of c.args.names.now in
    All-head (g.I.Inputs.may_take c.args.inputs.now) asked.board (option_to_list asked.flm ++ asked.images) c.requires

pub take_optional-requires : goal.take_optional-requires
take_optional-requires g c =
    let asked = files_of c.args.names.now in
    let may = g.I.Inputs.may_take c.args.inputs.now in
    All-weaker may (g.I.Inputs.may_take c.take_one.new.inputs) (λ name can. (c.in_ok-board.ensures.leave name).1 can) (option_to_list asked.flm)
    (all_front may (option_to_list asked.flm) asked.images (All-tail may asked.board (option_to_list asked.flm ++ asked.images) c.requires))

pub take_each-requires : goal.take_each-requires
take_each-requires g c =
    let asked = files_of c.args.names.now in
    let may = g.I.Inputs.may_take c.args.inputs.now in
    All-weaker may (g.I.Inputs.may_take c.take_optional.new.inputs) (λ name can. (c.in_ok-flm.ensures.leave name).1 ((c.in_ok-board.ensures.leave name).1 can))
    asked.images
    (all_back may (option_to_list asked.flm) asked.images (All-tail may asked.board (option_to_list asked.flm ++ asked.images) c.requires))

pub returns-in_err-board-clause-takes : goal.returns-in_err-board-clause-takes
returns-in_err-board-clause-takes g c =
    let asked = files_of c.args.names.now in
    let p = err_from_is_err_and c.from_residual.result c.from_residual.ensures.1 in
    rw (p.1, p.2) (fault_before (inputs_call g.I.Inputs.tells (g.I.Inputs.state c.args.inputs.now) (g.I.Inputs.state c.take_one.new.inputs))
    (asked.board ∷ []) (option_to_list asked.flm ++ asked.images) (shown c.in_err-board.field-0.0) c.in_err-board.ensures.takes)

pub returns-in_err-flm-clause-takes : goal.returns-in_err-flm-clause-takes
returns-in_err-flm-clause-takes g c =
    let asked = files_of c.args.names.now in
    let r = shown c.in_err-flm.field-0.0 in
    let p = err_from_is_err_and c.from_residual-in_err-flm.result c.from_residual-in_err-flm.ensures.1 in
    rw (p.1, p.2) (fault_behind (g.I.Inputs.state c.take_optional.new.inputs) (option_to_list asked.flm ++ asked.images) r c.in_ok-board.ensures.takes.0
    c.in_ok-board.ensures.stands c.in_ok-board.ensures.takes.1
    (fault_before (inputs_call g.I.Inputs.tells (g.I.Inputs.state c.take_one.new.inputs) (g.I.Inputs.state c.take_optional.new.inputs))
    (option_to_list asked.flm)
    asked.images r c.in_err-flm.ensures.takes))

pub returns-in_err-images-clause-takes : goal.returns-in_err-images-clause-takes
returns-in_err-images-clause-takes g c =
    let asked = files_of c.args.names.now in
    let r = shown c.in_err-images.field-0.0 in
    let p = err_from_is_err_and c.from_residual-in_err-images.result c.from_residual-in_err-images.ensures.1 in
    rw (p.1, p.2) (fault_behind (g.I.Inputs.state c.take_each.new.inputs) (option_to_list asked.flm ++ asked.images) r c.in_ok-board.ensures.takes.0
    c.in_ok-board.ensures.stands c.in_ok-board.ensures.takes.1
    (fault_behind (g.I.Inputs.state c.take_each.new.inputs) asked.images r c.in_ok-flm.ensures.takes.0 c.in_ok-flm.ensures.stands c.in_ok-flm.ensures.takes.1
    c.in_err-images.ensures.takes))

pub returns-clause-takes : goal.returns-clause-takes
returns-clause-takes g c = (
  record {
    board = λ told. c.in_ok-board.ensures.takes.0.each 0 (omega arith) told;
    flm = each_earlier c.in_ok-flm.ensures.takes.0 c.in_ok-board.ensures.stands;
    images = each_earlier c.in_ok-images.ensures.takes.0 (λ name. c.in_ok-flm.ensures.stands name ∙ c.in_ok-board.ensures.stands name);
  },
  none_failed_then (none_failed_then c.in_ok-board.ensures.takes.1 c.in_ok-flm.ensures.takes.1) c.in_ok-images.ensures.takes.1,
)

pub returns-clause-short : goal.returns-clause-short
returns-clause-short g c = record { board = c.in_ok-board.ensures.short; flm = c.in_ok-flm.ensures.short; images = c.in_ok-images.ensures.short }
