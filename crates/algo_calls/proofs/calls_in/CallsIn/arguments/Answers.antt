-- `CallsIn::arguments`: that it keeps its contract.
use Rattle.std.proofs.Common.{sym, ap}
use Rattle.algo_calls.specs.declared.call.Call.{Call}
use Rattle.algo_calls.specs.Frames.{arguments}
use Rattle.algo_calls.specs.Shows.{setup_at}
use Rattle.algo_calls.proofs.calls_in.CallsIn.arguments.Goals as goal

pub returns-in-ProgramPage : goal.returns-in-ProgramPage
returns-in-ProgramPage c = ap (λ (x : Call). arguments (setup_at c.args.self.now) x c.args.len) (sym c.in-ProgramPage.is)
