-- `flmprog`: its contract, `Answers`, and what `run` requires.
use Rattle.report_text.specs.Refusal.{out_of_memory}
use Rattle.command_files.specs.Call.{refused}
use Rattle.command_files.specs.Shown.{answer_of}
use Rattle.command_files.proofs.AnswerLemmas.{zero_is_done}
use Rattle.flm_cli.proofs.TopLemmas.{ends_unread}
use Rattle.flm_cli.proofs.top.flmprog.Goals as goal

pub run-end-requires-clause-read : goal.run-end-requires-clause-read
run-end-requires-clause-read g c = c.in-Ok.ensures

pub returns-in-Err : goal.returns-in-Err
returns-in-Err g c = λ asked given. record {
  answer = refused out_of_memory;
  says = c.report-in-Err.ensures;
  zero = zero_is_done _ _ (refused out_of_memory) c.report-in-Err.ensures;
  ends = ends_unread g.B.Bench.tells g.I.Inputs.tells g.O.Sink.tells (g.B.Bench.state c.args.bench.now) (g.I.Inputs.state c.args.inputs.now)
      (g.O.Sink.state c.args.out.now)
      (λ told. g.met.B.Bench.all_told c.args.bench.now told) (λ told x at. (g.met.B.Bench.as_told c.args.bench.now x told).0 at)
      c.args.words.now asked given;
}

pub returns-in-Ok : goal.returns-in-Ok
returns-in-Ok g c = λ asked given. record {
  answer = answer_of c.run-end.result;
  says = c.report.ensures;
  zero = zero_is_done _ _ (answer_of c.run-end.result) c.report.ensures;
  ends = c.run-end.ensures asked given;
}
