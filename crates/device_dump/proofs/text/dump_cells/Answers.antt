-- `dump_cells`: its contract, `DumpsCells`, and what `put_cells` requires.
use Rattle.std.proofs.Common.{◌≡◌, ◌∙◌, sym, subst, arith, List, ℕ, IsTrue}
use Rattle.std.proofs.lemmas.Grind.{common_steps}
use Rattle.std.proofs.lemmas.Result.{err_from_is_err_and}
use Rattle.board_file.specs.declared.region.Region.{Region}
use Rattle.command_files.specs.Call.{bench_call, sink_call}
use Rattle.command_files.specs.Shown.{answer_of}
use Rattle.device_dump.specs.Steps.{PutsCells}
use Rattle.device_dump.proofs.DumpLemmas.{dumps_nothing, dumps_fault, dumps_put, written_back}
use Rattle.device_dump.proofs.text.dump_cells.Goals as goal

pub returns-in_err-survey : goal.returns-in_err-survey
returns-in_err-survey g c =
    let bench = bench_call g.B.Bench.tells (g.B.Bench.state c.args.bench.now) (g.B.Bench.state c.survey.new.bench) in
    let p = err_from_is_err_and c.from_residual.result c.from_residual.ensures.1 in
    rw (p.1, p.2) (dumps_fault c.args.form c.args.board.now.regions bench g.O.Sink.tells (g.O.Sink.state c.args.out.now) _ c.in_err-survey.ensures.looks)

pub returns : goal.returns
returns g c =
    let bench = bench_call g.B.Bench.tells (g.B.Bench.state c.args.bench.now) (g.B.Bench.state c.survey.new.bench) in
    let out = sink_call g.O.Sink.tells (g.O.Sink.state c.args.out.now) (g.O.Sink.state c.put_cells.new.out) in
    let cells : c.survey.new.cells ≡ c.deref.result.now = sym
    (c.deref.ensures.value ∙ written_back _ c.survey.new.cells _ (omega (arith, c.survey.auto.cells, c.deref_mut.ensures.len))) in
    let puts = subst (λ (rs : List Region). PutsCells c.args.form rs c.deref.result.now out (answer_of c.put_cells.result)) c.as_slice.ensures
    c.put_cells.ensures in
    dumps_put c.args.form c.args.board.now.regions bench out c.deref.result.now _ c.in_ok-survey.ensures.looks
    (subst (λ (l : List ℕ). IsTrue g.B.Bench.tells → (g.B.Bench.state c.survey.new.bench).cells ≡ l) cells c.in_ok-survey.ensures.surveyed)
    (answer_of c.put_cells.result) puts

pub returns-in_default : goal.returns-in_default
returns-in_default g c =
    dumps_nothing c.args.form c.args.board.now.regions g.B.Bench.tells g.O.Sink.tells (g.B.Bench.state c.args.bench.now) (g.O.Sink.state c.args.out.now)

pub put_cells-requires : goal.put_cells-requires
put_cells-requires g c = grind (arith, common_steps)
