-- `go_on`: its clause `ends`.
use Rattle.std.proofs.Common.{refl, []}
use Rattle.command_files.specs.Call.{bench_call, sink_call}
use Rattle.command_files.specs.Shown.{answer_of}
use Rattle.command_files.proofs.AnswerLemmas.{took_none}
use Rattle.job_commands.proofs.CountLemmas.{worked_lawful}
use Rattle.job_commands.proofs.later_commands.go_on.Goals as goal
use Rattle.job_commands.specs.GoOn.{has_resume}

pub returns-clause-ends : goal.returns-clause-ends
returns-clause-ends g c = λ inputs takes. record {
  lawful = worked_lawful (bench_call g.B.Bench.tells (g.B.Bench.state c.args.bench.now) (g.B.Bench.state c.carry.new.bench)) inputs
      (sink_call g.O.Sink.tells (g.O.Sink.state c.args.out.now) (g.O.Sink.state c.carry.new.out)) has_resume has_resume [] (answer_of c.carry.result)
      c.carry.ensures.kind c.carry.ensures.kind (λ name. refl) (took_none inputs takes) c.carry.ensures.counts c.carry.ensures.early;
  takes = takes;
  sound = c.carry.ensures.sound;
  prints = c.carry.ensures.prints;
  told = c.carry.ensures.told;
}
