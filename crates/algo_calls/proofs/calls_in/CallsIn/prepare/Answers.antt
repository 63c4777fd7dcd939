-- `CallsIn::prepare`: that it keeps its contract, what `hand_over` requires, and that its result meets the clauses of its type.
use Rattle.algo_calls.specs.Shows.{setup_at}
use Rattle.algo_calls.proofs.CallLemmas.{may_bytes}
use Rattle.std.proofs.Common.{arith}
use Rattle.std.proofs.lemmas.Grind.{common_steps}
use Rattle.algo_calls.proofs.calls_in.CallsIn.prepare.Goals as goal

pub hand_over-frame-requires-clause-bytes : goal.hand_over-frame-requires-clause-bytes
hand_over-frame-requires-clause-bytes c = may_bytes (setup_at c.args.self.now) c.args.call.now c.args.bytes.now c.requires.may

pub returns-clause-unit : goal.returns-clause-unit
returns-clause-unit c = grind (arith, common_steps)

pub returns-clause-ram : goal.returns-clause-ram
returns-clause-ram c = grind (arith, common_steps)

pub returns-clause-return_at : goal.returns-clause-return_at
returns-clause-return_at c = grind (arith, common_steps)

pub invariant_of-self : goal.invariant_of-self
invariant_of-self c = grind (arith, common_steps)

pub returns-clause-fuel : goal.returns-clause-fuel
returns-clause-fuel c = grind (arith, common_steps)

pub returns-clause-first : goal.returns-clause-first
returns-clause-first c = grind (arith, common_steps)
