-- `compare`: its contract, `CompareEnds`, and what `find_in_cells` and `tell_found` require.
use Rattle.std.proofs.Common.{sym, ap, subst, arith, ℕ, List, length}
use Rattle.std.proofs.lemmas.Result.{err_from_is_err_and}
use Rattle.command_files.specs.Inputs.{inputs_call, IsFile}
use Rattle.report_text.specs.Refusal.{image_too_long}
use Rattle.report_text.specs.Shown.{shown}
use Rattle.command_files.specs.Call.{bench_call, sink_call, refused}
use Rattle.flm_cli.specs.Compare.{CellsAre, DiffersFrom, CompareEnds}
use Rattle.command_files.specs.Shown.{answer_of}
use Rattle.flm_cli.proofs.CompareLemmas.{ends_untaken, ends_too_long, ends_compared}
use Rattle.flm_cli.proofs.ComparisonLemmas.{compares_by, told_fits}
use Rattle.flm_cli.proofs.compare.compare.Goals as goal

pub returns-in_err-file : goal.returns-in_err-file
returns-in_err-file g c =
    let is = err_from_is_err_and c.from_residual.result c.from_residual.ensures.1 in
    rw (is.1, is.2) (ends_untaken g.B.Bench.tells g.O.Sink.tells (g.B.Bench.state c.args.bench.now) (g.O.Sink.state c.args.out.now)
    (inputs_call g.I.Inputs.tells (g.I.Inputs.state c.args.inputs.now) (g.I.Inputs.state c.take_one.new.inputs)) c.args.image.now
    (shown c.in_err-file.field-0.0)
    c.in_err-file.ensures.takes)

pub tell_found-requires : goal.tell_found-requires
tell_found-requires g c =
    let bench = bench_call g.B.Bench.tells (g.B.Bench.state c.args.bench.now) (g.B.Bench.state c.find_in_cells-found.new.bench) in
    told_fits 0 (CellsAre bench c.bytes.result.now) (DiffersFrom bench c.bytes.result.now) c.find_in_cells-found.result c.find_in_cells-found.ensures.found
    (λ at wanted byte differs. omega (arith, differs.within, ap length c.bytes.ensures))

pub returns : goal.returns
returns g c =
    let bench = bench_call g.B.Bench.tells (g.B.Bench.state c.args.bench.now) (g.B.Bench.state c.find_in_cells-found.new.bench) in
    let inputs = inputs_call g.I.Inputs.tells (g.I.Inputs.state c.args.inputs.now) (g.I.Inputs.state c.take_one.new.inputs) in
    let out = sink_call g.O.Sink.tells (g.O.Sink.state c.args.out.now) (g.O.Sink.state c.tell_found.new.out) in
    let bytes = c.bytes.result.now in
    let file = subst (λ (f : List ℕ). IsFile inputs c.args.image.now f) (sym c.bytes.ensures) (c.in_ok-file.ensures.takes.0.each 0 (omega arith)) in
    ends_compared bench inputs out c.args.image.now bytes file c.in_ok-file.ensures.takes.1 (omega (arith, ap length c.bytes.ensures))
    (answer_of c.tell_found.result)
    (compares_by bench out 0 (CellsAre bench bytes) (DiffersFrom bench bytes) c.find_in_cells-found.result (answer_of c.tell_found.result)
    c.find_in_cells-found.ensures.looks c.find_in_cells-found.ensures.found c.tell_found.ensures)

pub returns-then-len-cells : goal.returns-then-len-cells
returns-then-len-cells g c =
    let b = g.B.Bench.state c.args.bench.now in
    let o = g.O.Sink.state c.args.out.now in
    let inputs = inputs_call g.I.Inputs.tells (g.I.Inputs.state c.args.inputs.now) (g.I.Inputs.state c.take_one.new.inputs) in
    let bytes = c.in_ok-file.file in
    let ends = ends_too_long g.B.Bench.tells g.O.Sink.tells b o inputs c.args.image.now bytes (c.in_ok-file.ensures.takes.0.each 0 (omega arith))
    c.in_ok-file.ensures.takes.1 (omega arith) in
    subst (λ (n : ℕ). CompareEnds c.args.image.now (bench_call g.B.Bench.tells b b) inputs (sink_call g.O.Sink.tells o o)
    (refused (image_too_long n c.cells_len-cells.result)))
    (sym c.len-then-len-cells.ensures)
    (subst (λ (n : ℕ). CompareEnds c.args.image.now (bench_call g.B.Bench.tells b b) inputs (sink_call g.O.Sink.tells o o)
    (refused (image_too_long (length bytes) n)))
    (sym c.cells_len-cells.ensures) ends)

pub find_in_cells-found-requires : goal.find_in_cells-found-requires
find_in_cells-found-requires g c = omega (arith, ap length c.bytes.ensures)
