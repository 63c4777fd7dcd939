-- `plan_start`: that it keeps its contract, and what `start_marks` requires.
use Rattle.std.proofs.lemmas.Grind.{common_steps}
use Rattle.std.proofs.Common.{◌∙◌, refl, arith}
use Rattle.erase_planner.proofs.FeedLemmas.{mark_blank}
use Rattle.erase_planner.proofs.plan.plan_start.Goals as goal

pub returns-clause-fed : goal.returns-clause-fed
returns-clause-fed c empty = record {
  marked = record {
    long = c.start_marks.ensures.long ∙ c.pages.ensures.count;
    each = λ p h. c.start_marks.ensures.blank p (omega (arith, h, c.pages.ensures.count)) ∙ mark_blank c.args.geometry.now empty p;
  };
  old_long = refl;
  want_long = refl;
}

pub start_marks-requires : goal.start_marks-requires
start_marks-requires c = grind (arith, common_steps)

pub returns-clause-spare : goal.returns-clause-spare
returns-clause-spare c = grind (arith, common_steps)
