-- `inspect`: its contract, `InspectEnds`.
use Rattle.std.proofs.Common.{sym, subst, arith, refl, ℕ, List}
use Rattle.std.proofs.lemmas.Result.{err_from_is_err_and}
use Rattle.flm_descriptor.specs.Shown as flm
use Rattle.command_files.specs.Inputs.{inputs_call, IsFile}
use Rattle.report_text.specs.Shown.{shown}
use Rattle.command_files.specs.Call.{sink_call}
use Rattle.flm_cli.proofs.InspectLemmas.{ends_untaken, ends_unread, ends_done, ends_cut}
use Rattle.flm_cli.proofs.inspect.inspect.Goals as goal

pub returns-in_err-file : goal.returns-in_err-file
returns-in_err-file g c =
    let is = err_from_is_err_and c.from_residual.result c.from_residual.ensures.1 in
    rw (is.1, is.2) (ends_untaken g.B.Bench.tells g.O.Sink.tells (g.B.Bench.state c.args.bench.now) (g.O.Sink.state c.args.out.now)
    (inputs_call g.I.Inputs.tells (g.I.Inputs.state c.args.inputs.now) (g.I.Inputs.state c.take_one.new.inputs)) c.args.flm.now (shown c.in_err-file.field-0.0)
    c.in_err-file.ensures.takes)

pub returns-in_err-algorithm : goal.returns-in_err-algorithm
returns-in_err-algorithm g c =
    let inputs = inputs_call g.I.Inputs.tells (g.I.Inputs.state c.args.inputs.now) (g.I.Inputs.state c.take_one.new.inputs) in
    let file = subst (λ (f : List ℕ). IsFile inputs c.args.flm.now f) (sym c.bytes.ensures) (c.in_ok-file.ensures.takes.0.each 0 (omega arith)) in
    let p = err_from_is_err_and c.from_residual-in_err-algorithm.result c.from_residual-in_err-algorithm.ensures.1 in
    rw (p.1, p.2) (ends_unread g.B.Bench.tells g.O.Sink.tells (g.B.Bench.state c.args.bench.now) (g.O.Sink.state c.args.out.now) inputs c.args.flm.now
    c.bytes.result.now
    file c.in_ok-file.ensures.takes.1 c.in_err-algorithm.field-0.0 c.in_err-algorithm.ensures.refused)

pub returns-in_err-put_inspection : goal.returns-in_err-put_inspection
returns-in_err-put_inspection g c =
    let inputs = inputs_call g.I.Inputs.tells (g.I.Inputs.state c.args.inputs.now) (g.I.Inputs.state c.take_one.new.inputs) in
    let out = sink_call g.O.Sink.tells (g.O.Sink.state c.args.out.now) (g.O.Sink.state c.put_inspection.new.out) in
    let file = subst (λ (f : List ℕ). IsFile inputs c.args.flm.now f) (sym c.bytes.ensures) (c.in_ok-file.ensures.takes.0.each 0 (omega arith)) in
    let puts = c.in_err-put_inspection.ensures in
    let p = err_from_is_err_and c.from_residual-in_err-put_inspection.result c.from_residual-in_err-put_inspection.ensures.1 in
    rw (p.1, p.2) (ends_cut g.B.Bench.tells (g.B.Bench.state c.args.bench.now) inputs out c.args.flm.now c.bytes.result.now
    (flm.shown c.in_ok-algorithm.algorithm) file
    c.in_ok-file.ensures.takes.1 c.in_ok-algorithm.ensures.ok (record { taken = puts.err; later = puts.cause.later; rose = puts.cause.on_fault refl }))

pub returns : goal.returns
returns g c =
    let inputs = inputs_call g.I.Inputs.tells (g.I.Inputs.state c.args.inputs.now) (g.I.Inputs.state c.take_one.new.inputs) in
    let out = sink_call g.O.Sink.tells (g.O.Sink.state c.args.out.now) (g.O.Sink.state c.put_inspection.new.out) in
    let file = subst (λ (f : List ℕ). IsFile inputs c.args.flm.now f) (sym c.bytes.ensures) (c.in_ok-file.ensures.takes.0.each 0 (omega arith)) in
    let puts = c.in_ok-put_inspection.ensures in
    ends_done g.B.Bench.tells (g.B.Bench.state c.args.bench.now) inputs out c.args.flm.now c.bytes.result.now (flm.shown c.in_ok-algorithm.algorithm) file
    c.in_ok-file.ensures.takes.1 c.in_ok-algorithm.ensures.ok (record { taken = puts.ok; faults = puts.cause.on_ok refl })
