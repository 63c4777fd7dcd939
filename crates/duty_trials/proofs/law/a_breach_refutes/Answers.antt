-- `a_breach_refutes`: the law.
use Rattle.duty_trials.proofs.TrialLemmas.{refutes}
use Rattle.duty_trials.proofs.law.a_breach_refutes.Goals as goal

pub returns : goal.returns
returns c = λ b a region cells phase before d x serves. refutes b a region cells phase before d x serves
