-- `verify`: its contract, `VerifyEnds`, and what `read_files` and `tell_found` require.
use Rattle.std.proofs.Common.{◌∙◌, sym, subst, ℕ}
use Rattle.std.proofs.lemmas.Result.{err_from_is_err_and}
use Rattle.command_words.specs.Requested.{files_of}
use Rattle.command_files.specs.Inputs.{inputs_call}
use Rattle.board_file.specs.Limits.{size_of}
use Rattle.command_files.specs.Steps.{bytes_of, aim_of}
use Rattle.report_text.specs.Refusal.{cells_differ}
use Rattle.report_text.specs.Shown.{shown}
use Rattle.command_files.specs.Call.{bench_call, sink_call, refused}
use Rattle.command_files.specs.Shown.{answer_of}
use Rattle.flm_cli.specs.Verify.{AgreesWith, DiffersAt, VerifyEnds}
use Rattle.flm_cli.proofs.VerifyLemmas.{ends_untaken, ends_unread, ends_other_size, ends_compared, address_fits}
use Rattle.flm_cli.proofs.ComparisonLemmas.{compares_by, told_fits}
use Rattle.flm_cli.proofs.verify.verify.Goals as goal

pub read_files-requires : goal.read_files-requires
read_files-requires g c = c.in_ok-files.ensures.takes.0.images.count

pub tell_found-requires : goal.tell_found-requires
tell_found-requires g c =
    let bench = bench_call g.B.Bench.tells (g.B.Bench.state c.args.bench.now) (g.B.Bench.state c.find_in_image-found.new.bench) in
    let wanted = c.in_ok-wanted.wanted in
    let regions = wanted.board.regions in
    told_fits 0 (AgreesWith bench regions wanted.image) (DiffersAt bench regions wanted.image) c.find_in_image-found.result
    c.find_in_image-found.ensures.found
    (λ at byte found differs. address_fits c.args.names.now.raw_at (bytes_of c.in_ok-files.files) (aim_of wanted) bench at byte found c.in_ok-wanted.ensures
    differs)

pub returns-in_err-files : goal.returns-in_err-files
returns-in_err-files g c =
    let is = err_from_is_err_and c.from_residual.result c.from_residual.ensures.1 in
    rw (is.1, is.2) (ends_untaken g.B.Bench.tells g.O.Sink.tells (g.B.Bench.state c.args.bench.now) (g.O.Sink.state c.args.out.now)
    (inputs_call g.I.Inputs.tells (g.I.Inputs.state c.args.inputs.now) (g.I.Inputs.state c.take_files.new.inputs)) (files_of c.args.names.now)
    (shown c.in_err-files.field-0.0) c.in_err-files.ensures.takes)

pub returns-in_err-wanted : goal.returns-in_err-wanted
returns-in_err-wanted g c =
    let is = err_from_is_err_and c.from_residual-in_err-wanted.result c.from_residual-in_err-wanted.ensures.1 in
    rw (is.1, is.2) (ends_unread g.B.Bench.tells g.O.Sink.tells (g.B.Bench.state c.args.bench.now) (g.O.Sink.state c.args.out.now)
    (inputs_call g.I.Inputs.tells (g.I.Inputs.state c.args.inputs.now) (g.I.Inputs.state c.take_files.new.inputs)) (files_of c.args.names.now)
    (bytes_of c.in_ok-files.files) c.requires.no_flm c.in_ok-files.ensures.takes.0 c.in_ok-files.ensures.takes.1 (shown c.in_err-wanted.field-0.0)
    c.in_err-wanted.ensures)

pub returns-then-cells-size : goal.returns-then-cells-size
returns-then-cells-size g c =
    let asked = files_of c.args.names.now in
    let inputs = inputs_call g.I.Inputs.tells (g.I.Inputs.state c.args.inputs.now) (g.I.Inputs.state c.take_files.new.inputs) in
    let b = g.B.Bench.state c.args.bench.now in
    let o = g.O.Sink.state c.args.out.now in
    let wanted = c.in_ok-wanted.wanted in
    let ends = ends_other_size g.B.Bench.tells g.O.Sink.tells b o inputs asked (bytes_of c.in_ok-files.files) c.requires.no_flm c.in_ok-files.ensures.takes.0
    c.in_ok-files.ensures.takes.1 wanted c.in_ok-wanted.ensures
    (λ same. c.if-cells-size.true (c.cells_len-cells.ensures ∙ sym same ∙ sym c.cells_of-size.ensures)) in
    subst (λ (s : ℕ). VerifyEnds asked (bench_call g.B.Bench.tells b b) inputs (sink_call g.O.Sink.tells o o)
    (refused (cells_differ s c.cells_len-cells.result)))
    (sym c.cells_of-size.ensures)
    (subst (λ (n : ℕ). VerifyEnds asked (bench_call g.B.Bench.tells b b) inputs (sink_call g.O.Sink.tells o o)
    (refused (cells_differ (size_of wanted.board.regions) n)))
    (sym c.cells_len-cells.ensures) ends)

pub returns : goal.returns
returns g c =
    let bench = bench_call g.B.Bench.tells (g.B.Bench.state c.args.bench.now) (g.B.Bench.state c.find_in_image-found.new.bench) in
    let inputs = inputs_call g.I.Inputs.tells (g.I.Inputs.state c.args.inputs.now) (g.I.Inputs.state c.take_files.new.inputs) in
    let out = sink_call g.O.Sink.tells (g.O.Sink.state c.args.out.now) (g.O.Sink.state c.tell_found.new.out) in
    let wanted = c.in_ok-wanted.wanted in
    let regions = wanted.board.regions in
    ends_compared bench inputs out (files_of c.args.names.now) (bytes_of c.in_ok-files.files) wanted c.in_ok-files.ensures.takes.0 c.in_ok-files.ensures.takes.1
    c.in_ok-wanted.ensures
    (sym c.cells_of-size.ensures ∙ (sym c.if-cells-size.false ∙ c.cells_len-cells.ensures)) (answer_of c.tell_found.result)
    (compares_by bench out 0 (AgreesWith bench regions wanted.image) (DiffersAt bench regions wanted.image) c.find_in_image-found.result
    (answer_of c.tell_found.result)
    c.find_in_image-found.ensures.looks c.find_in_image-found.ensures.found c.tell_found.ensures)
