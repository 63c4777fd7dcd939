-- `Subject::span`: that it keeps its contract.
use Rattle.std.proofs.Common.{refl, arith}
use Rattle.duty_trials.proofs.subject.Subject.span.Goals as goal

pub returns : goal.returns
returns c =
    let t = c.args.self.now in
    record {
      address = refl;
      from = omega (arith, t.begins);
      to = omega (arith, t.begins);
      order = omega arith;
      within = omega (arith, t.within);
    }
