-- `all_fit`: the value that it answers.
use Rattle.std.proofs.Common.{rules, ◌≡◌, length, arith}
use Rattle.std.proofs.lemmas.Grind.{common_steps}
use Rattle.board_file.specs.Shown.{shown as board_shown}
use Rattle.job_text.proofs.FitLemmas.{other_count}
use Rattle.job_text.proofs.fit.all_fit.Goals as goal

pub returns-then-regions-algorithms : goal.returns-then-regions-algorithms
returns-then-regions-algorithms c =
    let other : (length c.args.board.now.regions ≡ length c.args.algorithms.now → ⊥) = search rules in
    other_count (board_shown c.args.board.now) c.args.board.now.regions c.args.algorithms.now other

pub returns-then-not-fits : goal.returns-then-not-fits
returns-then-not-fits c = grind (arith, common_steps)

pub regions-preserved : goal.regions-preserved
regions-preserved c = grind (arith, common_steps)

pub returns : goal.returns
returns c = grind (arith, common_steps)
