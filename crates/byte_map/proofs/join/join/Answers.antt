-- `join`: its clause `ok`, and what `extend_first` and `extend_last` require.
use Rattle.std.proofs.Common.{◌≡◌, ◌-◌, ◌^◌, ℕ, ap, arith}
use Rattle.std.proofs.lemmas.Grind.{common_steps}
use Rattle.byte_map.specs.Image.{Run, run_at, end_of}
use Rattle.byte_map.proofs.Runs.{rising, at_rises, end_rises}
use Rattle.byte_map.proofs.Grown.{lays_nothing}
use Rattle.byte_map.proofs.join.join.Goals as goal

pub returns-in-true-true-clause-ok : goal.returns-in-true-true-clause-ok
returns-in-true-true-clause-ok c =
    let runs = c.args.runs.now in
    let at = ap (λ (r : Run). r.at) c.get.ensures in
    let end = ap (λ (r : Run). end_of r) c.get-2.ensures in
    let one : c.args.last - 1 ≡ c.args.first = omega arith in
    let same = ap (λ (k : ℕ). end_of (run_at runs k)) one in
    lays_nothing _ runs c.args.first c.args.last c.requires (omega arith) (omega (arith, at, c.at-front.ensures))
    (omega (arith, end, same, c.end-back.ensures.end))

pub extend_first-requires-clause-ends : goal.extend_first-requires-clause-ends
extend_first-requires-clause-ends c =
    let touch = c.requires.touches in
    let up = rising 0 (2 ^ 32) c.args.runs.now c.args.first (c.args.last - 1) c.requires.maximal (omega (arith, touch.ordered)) (omega (arith, touch.within)) in
    let begins = touch.touched_at (c.args.last - 1) (omega (arith, touch.ordered)) in
    omega (arith, up, begins)

pub extend_last-requires-clause-begins : goal.extend_last-requires-clause-begins
extend_last-requires-clause-begins c =
    let touch = c.requires.touches in
    let up = rising 0 (2 ^ 32) c.args.runs.now c.args.first (c.args.last - 1) c.requires.maximal (omega (arith, touch.ordered)) (omega (arith, touch.within)) in
    let ends = touch.touched_end c.args.first (omega arith) (omega (arith, touch.ordered, touch.within)) in
    omega (arith, up, ends)

pub extend_first-requires-in-true-false-clause-ends : goal.extend_first-requires-in-true-false-clause-ends
extend_first-requires-in-true-false-clause-ends c =
    let touch = c.requires.touches in
    let up = end_rises (2 ^ 32) c.args.runs.now c.args.first (c.args.last - 1) c.requires.maximal (omega (arith, touch.ordered))
    (omega (arith, touch.ordered, touch.within)) in
    let end = ap (λ (r : Run). end_of r) c.get-2.ensures in
    omega (arith, up, end, c.end-back.ensures.end)

pub extend_last-requires-in-false-true-clause-begins : goal.extend_last-requires-in-false-true-clause-begins
extend_last-requires-in-false-true-clause-begins c =
    let touch = c.requires.touches in
    let up = at_rises (2 ^ 32) c.args.runs.now c.args.first (c.args.last - 1) c.requires.maximal (omega (arith, touch.ordered))
    (omega (arith, touch.ordered, touch.within)) in
    let at = ap (λ (r : Run). r.at) c.get.ensures in
    omega (arith, up, at, c.at-front.ensures)

pub extend_first-requires-in-true-false-clause-begins : goal.extend_first-requires-in-true-false-clause-begins
extend_first-requires-in-true-false-clause-begins c = grind (arith, common_steps)

pub put_apart-requires : goal.put_apart-requires
put_apart-requires c = grind (arith, common_steps)

pub extend_first-requires-clause-begins : goal.extend_first-requires-clause-begins
extend_first-requires-clause-begins c = grind (arith, common_steps)

pub cover-requires-clause-begins : goal.cover-requires-clause-begins
cover-requires-clause-begins c = grind (arith, common_steps)

pub extend_last-requires-in-false-true-clause-ends : goal.extend_last-requires-in-false-true-clause-ends
extend_last-requires-in-false-true-clause-ends c = grind (arith, common_steps)

pub cover-requires-clause-ends : goal.cover-requires-clause-ends
cover-requires-clause-ends c = grind (arith, common_steps)

pub extend_last-requires-clause-ends : goal.extend_last-requires-clause-ends
extend_last-requires-clause-ends c = grind (arith, common_steps)
