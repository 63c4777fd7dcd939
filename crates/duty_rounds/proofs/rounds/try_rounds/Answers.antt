-- `try_rounds`: that it keeps its contract, and that its loop keeps its invariant.
use Rattle.std.proofs.Common.{◌≡◌, sym, ◌∙◌, true, false}
use Rattle.duty_trials.specs.Subjects.{board_in, algorithm_in}
use Rattle.duty_rounds.proofs.RoundLemmas.{still_tried, tried_is}
use Rattle.duty_rounds.proofs.rounds.try_rounds.Goals as goal

pub loop-number-preserved : goal.loop-number-preserved
loop-number-preserved g c =
    still_tried (board_in c.args.subject.now) (algorithm_in c.args.subject.now) c.args.subject.now.region c.in_ok-trials.trials.verdict c.in_ok-trials.ensures
    (λ broke. let wrong : false ≡ true = sym c.if-is_broken.false ∙ c.is_broken.ensures.1 broke in absurd cc)

pub returns : goal.returns
returns g c = tried_is (board_in c.args.subject.now) (algorithm_in c.args.subject.now) c.args.subject.now.region c.loop-number.trials.verdict
    c.loop-number.invariant
