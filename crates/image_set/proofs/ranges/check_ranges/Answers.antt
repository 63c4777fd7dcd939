-- `check_ranges`: its clauses `refused` and `ok`, that its loop keeps its invariant, and what `find_outside` requires.
use Rattle.std.proofs.Common.{◌≡◌, ◌≢◌, ◌<◌, ◌≤◌, ℕ, [], length, sym, ap, subst, arith, below_more}
use Rattle.std.specs.Prelude.{IsTrue}
use Rattle.std.proofs.lemmas.Option.{get_or_from_slice_get}
use Rattle.byte_map.specs.Image.{Run, run_at, end_of}
use Rattle.byte_map.proofs.Runs.{each_run}
use Rattle.image_set.specs.Ranges.{is_inside, IsOutside}
use Rattle.image_set.proofs.RangeLemmas.{LieBefore, all_inside, least_outside}
use Rattle.image_set.proofs.ranges.check_ranges.Goals as goal

pub find_outside-requires : goal.find_outside-requires
find_outside-requires c =
    let runs = c.args.map.now in
    let index = c.loop-index.index in
    let run : Run = record { at = c.run-at.result.0; bytes = c.run-at.result.1.now } in
    let lt : index < length runs = omega (arith, c.runs-index-end.ensures.count) in
    let is = get_or_from_slice_get runs index run (record { at = 0; bytes = [] }) c.run-at.ensures in
    let each = each_run 0 4294967296 runs index c.runs.ensures.maximal lt in
    subst (λ (r : Run). end_of r ≤ 4294967296) is each.2

pub returns-in-Some-clause-refused : goal.returns-in-Some-clause-refused
returns-in-Some-clause-refused c =
    let runs = c.args.map.now in
    let index = c.loop-index.index in
    let run : Run = record { at = c.run-at.result.0; bytes = c.run-at.result.1.now } in
    let lt : index < length runs = omega (arith, c.runs-index-end.ensures.count) in
    let is = get_or_from_slice_get runs index run (record { at = 0; bytes = [] }) c.run-at.ensures in
    least_outside runs c.args.ranges.now index c.in-Some.at c.runs.ensures.maximal lt c.loop-index.invariant
    (subst (λ (r : Run). IsOutside r.at (end_of r) c.args.ranges.now c.in-Some.at) (sym is) c.in-Some.ensures)

pub loop-index-preserved : goal.loop-index-preserved
loop-index-preserved c =
    let runs = c.args.map.now in
    let index = c.loop-index.index in
    let run : Run = record { at = c.run-at.result.0; bytes = c.run-at.result.1.now } in
    let is = get_or_from_slice_get runs index run (record { at = 0; bytes = [] }) c.run-at.ensures in
    below_more (λ (k : ℕ). (a : ℕ) → (run_at runs k).at ≤ a → a < end_of (run_at runs k) → IsTrue (is_inside c.args.ranges.now a)) index c.loop-index.invariant
    (subst (λ (r : Run). (a : ℕ) → r.at ≤ a → a < end_of r → IsTrue (is_inside c.args.ranges.now a)) (sym is) c.in_default.ensures)

pub returns-clause-ok : goal.returns-clause-ok
returns-clause-ok c =
    let runs = c.args.map.now in
    let some : runs ≢ [] = λ empty. let none : length runs ≡ 0 = ap length empty in absurd (omega (arith, none, c.runs.ensures.count, c.if-runs-eq0.false)) in
    let end : c.loop-index.index ≡ length runs = omega (arith, c.runs-index-end.ensures.count, c.loop-index.auto.index-end) in
    all_inside runs c.args.ranges.now some (subst (LieBefore runs c.args.ranges.now) end c.loop-index.invariant)
