-- `Hand::back`: its clause, and that no operation is open when the state is taken.
use Rattle.std.proofs.Common.{refl, arith}
use Rattle.std.proofs.lemmas.Grind.{common_steps}
use Rattle.duty_runs.proofs.BackLemmas.{none_of}
use Rattle.duty_runs.proofs.hand.Hand.back.Goals as goal

pub left-requires-clause-idle : goal.left-requires-clause-idle
left-requires-clause-idle c = grind (arith, common_steps, none_of)

pub returns : goal.returns
returns c = (
  refl,
  record {
    counter = c.is_answer_known.ensures.counter c.if-not-is_answer_known.false;
    value = c.is_answer_known.ensures.value c.if-not-is_answer_known.false;
    success = c.succeeds.ensures c.if-not-succeeds.false;
    idle = grind (arith, common_steps, none_of);
    from = c.in_default.ensures.from;
    all = c.in_default.ensures.all;
    ram = c.in_ok-left.ensures.ram;
    known = c.in_ok-left.ensures.known;
    state = c.in_ok-left.ensures.state;
    address = c.in_ok-left.ensures.address;
  },
)
