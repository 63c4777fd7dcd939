-- `all_covered`: the value that it answers, and that its loop keeps its invariant.
use Rattle.std.proofs.Common.{rules, ◌≡◌, true, false, arith}
use Rattle.std.proofs.lemmas.Grind.{common_steps}
use Rattle.byte_map.specs.Image.{Run, end_of}
use Rattle.job_text.specs.Runs.{run_of}
use Rattle.job_text.specs.Reading.{covers}
use Rattle.job_text.proofs.FitLemmas.{covered_on, covered_not}
use Rattle.job_text.proofs.fit.all_covered.Goals as goal

pub returns-then-not-covers : goal.returns-then-not-covers
returns-then-not-covers c =
    let r : Run = run_of c.run-at.result.0 c.run-at.result.1.now in
    let no_ : covers c.args.regions.now r.at (end_of r) ≡ false = search rules in
    covered_not c.args.regions.now c.args.image.now c.each.index r (omega arith) c.run-at.ensures no_ c.each.invariant

pub each-preserved : goal.each-preserved
each-preserved c =
    let r : Run = run_of c.run-at.result.0 c.run-at.result.1.now in
    let yes_ : covers c.args.regions.now r.at (end_of r) ≡ true = search rules in
    covered_on c.args.regions.now c.args.image.now c.each.index r (omega arith) c.run-at.ensures yes_ c.each.invariant

pub returns : goal.returns
returns c = grind (arith, common_steps)
