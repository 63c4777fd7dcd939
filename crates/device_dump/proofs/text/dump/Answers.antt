-- `dump`: its contract, `DumpEnds`, and what `dump_cells` requires.
use Rattle.std.proofs.Common.{◌≡◌, ◌∙◌, sym, subst, arith, ℕ, List}
use Rattle.std.proofs.lemmas.Result.{err_from_is_err_and}
use Rattle.board_file.specs.Limits.{size_of}
use Rattle.board_file.specs.Shown as board
use Rattle.command_files.specs.Inputs.{inputs_call, IsFile}
use Rattle.report_text.specs.Refusal.{cells_differ}
use Rattle.report_text.specs.Shown.{shown}
use Rattle.command_files.specs.Call.{bench_call, sink_call, refused}
use Rattle.command_files.specs.Shown.{answer_of}
use Rattle.device_dump.specs.Dump.{DumpEnds}
use Rattle.device_dump.proofs.DumpLemmas.{ends_untaken, ends_unread, ends_other_count, ends_dumped}
use Rattle.device_dump.proofs.text.dump.Goals as goal

pub returns-in_err-file : goal.returns-in_err-file
returns-in_err-file g c =
    let p = err_from_is_err_and c.from_residual.result c.from_residual.ensures.1 in
    rw (p.1, p.2) (ends_untaken c.args.form c.args.board.now g.B.Bench.tells g.O.Sink.tells (g.B.Bench.state c.args.bench.now) (g.O.Sink.state c.args.out.now)
    (inputs_call g.I.Inputs.tells (g.I.Inputs.state c.args.inputs.now) (g.I.Inputs.state c.take_one.new.inputs)) (shown c.in_err-file.field-0.0)
    c.in_err-file.ensures.takes)

pub returns-in_err-board : goal.returns-in_err-board
returns-in_err-board g c =
    let inputs = inputs_call g.I.Inputs.tells (g.I.Inputs.state c.args.inputs.now) (g.I.Inputs.state c.take_one.new.inputs) in
    let file = subst (λ (f : List ℕ). IsFile inputs c.args.board.now f) (sym c.bytes.ensures) (c.in_ok-file.ensures.takes.0.each 0 (omega arith)) in
    let p = err_from_is_err_and c.from_residual-in_err-board.result c.from_residual-in_err-board.ensures.1 in
    rw (p.1, p.2) (ends_unread c.args.form c.args.board.now g.B.Bench.tells g.O.Sink.tells (g.B.Bench.state c.args.bench.now) (g.O.Sink.state c.args.out.now)
    inputs c.bytes.result.now file c.in_ok-file.ensures.takes.1 (shown c.in_err-board.field-0.0) c.in_err-board.ensures)

pub returns-then-found-wanted : goal.returns-then-found-wanted
returns-then-found-wanted g c =
    let form = c.args.form in
    let name = c.args.board.now in
    let b = g.B.Bench.state c.args.bench.now in
    let o = g.O.Sink.state c.args.out.now in
    let inputs = inputs_call g.I.Inputs.tells (g.I.Inputs.state c.args.inputs.now) (g.I.Inputs.state c.take_one.new.inputs) in
    let its = board.shown c.in_ok-board.board in
    let file = subst (λ (f : List ℕ). IsFile inputs name f) (sym c.bytes.ensures) (c.in_ok-file.ensures.takes.0.each 0 (omega arith)) in
    let wanted : c.cells_of-wanted.result ≡ size_of its.regions = c.cells_of-wanted.ensures in
    let ends = ends_other_count form name g.B.Bench.tells g.O.Sink.tells b o inputs c.bytes.result.now file c.in_ok-file.ensures.takes.1 its
    c.in_ok-board.ensures
    (λ same. c.if-found-wanted.true (c.cells_len-found.ensures ∙ sym same ∙ sym wanted)) in
    subst (λ (w : ℕ). DumpEnds form name (bench_call g.B.Bench.tells b b) inputs (sink_call g.O.Sink.tells o o)
    (refused (cells_differ w c.cells_len-found.result)))
    (sym wanted)
    (subst (λ (n : ℕ). DumpEnds form name (bench_call g.B.Bench.tells b b) inputs (sink_call g.O.Sink.tells o o)
    (refused (cells_differ (size_of its.regions) n)))
    (sym c.cells_len-found.ensures) ends)

pub dump_cells-requires : goal.dump_cells-requires
dump_cells-requires g c =
    sym c.cells_of-wanted.ensures ∙ sym c.if-found-wanted.false ∙ c.cells_len-found.ensures

pub returns : goal.returns
returns g c =
    let bench = bench_call g.B.Bench.tells (g.B.Bench.state c.args.bench.now) (g.B.Bench.state c.dump_cells.new.bench) in
    let inputs = inputs_call g.I.Inputs.tells (g.I.Inputs.state c.args.inputs.now) (g.I.Inputs.state c.take_one.new.inputs) in
    let out = sink_call g.O.Sink.tells (g.O.Sink.state c.args.out.now) (g.O.Sink.state c.dump_cells.new.out) in
    let file = subst (λ (f : List ℕ). IsFile inputs c.args.board.now f) (sym c.bytes.ensures) (c.in_ok-file.ensures.takes.0.each 0 (omega arith)) in
    ends_dumped c.args.form c.args.board.now bench inputs out c.bytes.result.now file c.in_ok-file.ensures.takes.1 (board.shown c.in_ok-board.board)
    c.in_ok-board.ensures
    (sym c.cells_of-wanted.ensures ∙ sym c.if-found-wanted.false ∙ c.cells_len-found.ensures) (answer_of c.dump_cells.result) c.dump_cells.ensures
