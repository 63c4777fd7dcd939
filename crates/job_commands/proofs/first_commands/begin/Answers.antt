-- `begin`: its contract, `BeginEnds`, and what `begin_alone` requires.
use Rattle.std.proofs.Common.{◌∙◌, sym}
use Rattle.std.proofs.lemmas.Result.{err_from_is_err_and}
use Rattle.report_text.specs.Shown.{shown}
use Rattle.command_words.specs.Requested.{files_of}
use Rattle.command_files.specs.Inputs.{inputs_call}
use Rattle.command_files.specs.Steps.{said_aim}
use Rattle.command_files.specs.Call.{bench_call, sink_call}
use Rattle.command_files.specs.Shown.{answer_of}
use Rattle.job_commands.proofs.RegionLemmas.{said_parts, said_texts}
use Rattle.job_commands.proofs.ProgramLemmas.{begin_early, said_starts, begin_worked}
use Rattle.job_commands.proofs.first_commands.begin.Goals as goal

pub returns-in_err-said : goal.returns-in_err-said
returns-in_err-said g c =
    let is = err_from_is_err_and c.from_residual.result c.from_residual.ensures.1 in
    rw (is.1, is.2) (begin_early g.B.Bench.tells g.O.Sink.tells (g.B.Bench.state c.args.bench.now) (g.O.Sink.state c.args.out.now)
    (inputs_call g.I.Inputs.tells (g.I.Inputs.state c.args.inputs.now) (g.I.Inputs.state c.read_target_files.new.inputs)) (files_of c.args.names.now)
    (λ told. g.met.B.Bench.all_told c.args.bench.now told) (λ told x at. (g.met.B.Bench.as_told c.args.bench.now x told).0 at)
    (shown c.in_err-said.field-0.0) c.in_err-said.ensures.reads)

pub begin_alone-requires : goal.begin_alone-requires
begin_alone-requires g c =
    let given = c.in_ok-said.ensures.reads.given in
    said_parts c.args.names.now.raw_at given.files c.in_ok-said.said given.holds c.in_ok-said.ensures.short_board c.in_ok-said.ensures.short_flm
    c.in_ok-said.ensures.short_second _ c.parts_of.ensures.board c.parts_of.ensures.flm c.parts_of.ensures.second c.parts_of.ensures.image
    c.parts_of.ensures.size

pub returns : goal.returns
returns g c =
    let asked = files_of c.args.names.now in
    let bench = bench_call g.B.Bench.tells (g.B.Bench.state c.args.bench.now) (g.B.Bench.state c.begin_alone.new.bench) in
    let inputs = inputs_call g.I.Inputs.tells (g.I.Inputs.state c.args.inputs.now) (g.I.Inputs.state c.read_target_files.new.inputs) in
    let out = sink_call g.O.Sink.tells (g.O.Sink.state c.args.out.now) (g.O.Sink.state c.begin_alone.new.out) in
    let took = c.in_ok-said.ensures.reads in
    let said = c.in_ok-said.said in
    let is = took.given.holds in
    let aim = said_aim said in
    let short = c.in_ok-said.ensures in
    begin_worked bench inputs out asked took.given.files aim took.given.are_files is.is_aim took.none_failed (answer_of c.begin_alone.result)
    c.begin_alone.ensures.kind c.begin_alone.ensures.counts c.begin_alone.ensures.early
    (record {
      has_texts = said_texts c.args.names.now.raw_at took.given.files said is short.short_board short.short_flm short.short_second;
      sized = λ its. sym c.parts_of.ensures.size ∙ c.begin_alone.ensures.sized its;
      sound = c.begin_alone.ensures.sound;
      prints = c.begin_alone.ensures.prints;
      works = λ told. said_starts bench out (answer_of c.begin_alone.result) c.args.names.now.raw_at took.given.files said is short.short_board short.short_flm
          short.short_second _ c.parts_of.ensures.board c.parts_of.ensures.flm c.parts_of.ensures.second c.parts_of.ensures.image c.parts_of.ensures.size
          (c.begin_alone.ensures.told told);
    })
