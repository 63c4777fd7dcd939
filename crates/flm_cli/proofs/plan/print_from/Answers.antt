-- `print_from`: its contract, `PlansCells`, and what `survey` and `put_parts` require.
use Rattle.std.proofs.Common.{◌∙◌, sym}
use Rattle.std.proofs.lemmas.Result.{err_from_is_err_and}
use Rattle.outside_io.proofs.PutTexts.{puts_as}
use Rattle.command_files.specs.Steps.{aim_of}
use Rattle.command_files.specs.Call.{bench_call}
use Rattle.flm_cli.specs.Plan.{text_of}
use Rattle.flm_cli.proofs.PlanLemmas.{device_cells, plans_fault, plans_done, plans_cut, parts_end, read_of, read_told, read_text}
use Rattle.flm_cli.proofs.plan.print_from.Goals as goal

pub survey-requires-clause-cells : goal.survey-requires-clause-cells
survey-requires-clause-cells g c = device_cells c.args.wanted.now.board.regions _ c.requires.devices ∙ c.requires.cells

pub put_parts-requires : goal.put_parts-requires
put_parts-requires g c = parts_end _ 0 c.survey.new.parts c.in_ok-survey.ensures.parts

pub returns-in_err-survey : goal.returns-in_err-survey
returns-in_err-survey g c =
    let bench = bench_call g.B.Bench.tells (g.B.Bench.state c.args.bench.now) (g.B.Bench.state c.survey.new.bench) in
    let p = err_from_is_err_and c.from_residual.result c.from_residual.ensures.1 in
    rw (p.1, p.2) (plans_fault bench g.O.Sink.tells (g.O.Sink.state c.args.out.now) (text_of (aim_of c.args.wanted.now)) _ c.in_err-survey.ensures.looks)

pub returns-in_err-put_parts : goal.returns-in_err-put_parts
returns-in_err-put_parts g c =
    let tells = g.B.Bench.tells in
    let wanted = c.args.wanted.now in
    let s = g.B.Bench.state c.survey.new.bench in
    let parts = c.survey.new.parts in
    let e = c.in_ok-survey.ensures in
    let bench = bench_call tells (g.B.Bench.state c.args.bench.now) s in
    let read = read_of tells wanted s parts c.requires.devices e.parts e.plans in
    let same = read_told tells wanted s parts c.requires.devices e.parts e.plans
    (λ told. g.met.B.Bench.all_told c.survey.new.bench told ∙ e.looks.count ∙ sym c.requires.cells) in
    let p = err_from_is_err_and c.from_residual-in_err-put_parts.result c.from_residual-in_err-put_parts.ensures.1 in
    rw (p.1, p.2) (plans_cut bench g.O.Sink.tells (g.O.Sink.state c.args.out.now) (text_of (aim_of wanted)) (g.O.Sink.state c.put_parts.new.out) read.cells
    (read.long ∙ c.requires.cells) _ e.looks same _
    (puts_as (read_text tells wanted s parts c.requires.devices e.parts e.plans) c.in_err-put_parts.ensures))

pub returns : goal.returns
returns g c =
    let tells = g.B.Bench.tells in
    let wanted = c.args.wanted.now in
    let s = g.B.Bench.state c.survey.new.bench in
    let parts = c.survey.new.parts in
    let e = c.in_ok-survey.ensures in
    let bench = bench_call tells (g.B.Bench.state c.args.bench.now) s in
    let read = read_of tells wanted s parts c.requires.devices e.parts e.plans in
    let same = read_told tells wanted s parts c.requires.devices e.parts e.plans
    (λ told. g.met.B.Bench.all_told c.survey.new.bench told ∙ e.looks.count ∙ sym c.requires.cells) in
    plans_done bench g.O.Sink.tells (g.O.Sink.state c.args.out.now) (text_of (aim_of wanted)) (g.O.Sink.state c.put_parts.new.out) read.cells
    (read.long ∙ c.requires.cells) _ e.looks same _
    (puts_as (read_text tells wanted s parts c.requires.devices e.parts e.plans) c.in_ok-put_parts.ensures)
