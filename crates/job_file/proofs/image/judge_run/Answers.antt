-- `judge_run`: its clauses `said`, `text` and `placed`.
use Rattle.std.proofs.Common.{◌∙◌, sym, arith}
use Rattle.job_file.proofs.StepLemmas.{judged_cut, judged_misplaced, judged, placed_parts, head_fields}
use Rattle.job_file.proofs.image.judge_run.Goals as goal

pub returns-then-left-size-clause-said : goal.returns-then-left-size-clause-said
returns-then-left-size-clause-said c = λ file long front.
    judged_cut c.args.head.now file c.args.whole c.args.regions.now c.args.low c.args.at c.le32-len.result
    (record { long = long; within = c.requires.within; front = front }) c.le32-len.ensures (omega arith)

pub returns-then-is_placed-clause-said : goal.returns-then-is_placed-clause-said
returns-then-is_placed-clause-said c = λ file long front.
    judged c.args.head.now file c.args.whole c.args.regions.now c.args.low c.args.at c.le32-place.result c.le32-len.result
    (record { long = long; within = c.requires.within; front = front }) c.le32-place.ensures c.le32-len.ensures
    (omega arith) (sym c.is_placed.ensures ∙ c.if-is_placed.true)

pub returns-then-is_placed-clause-text : goal.returns-then-is_placed-clause-text
returns-then-is_placed-clause-text c = head_fields c.args.head.now c.le32-place.result c.le32-len.result c.requires.head (λ i. omega (arith, c.type_inv.head i))
    c.le32-place.ensures c.le32-len.ensures

pub returns-then-is_placed-clause-placed : goal.returns-then-is_placed-clause-placed
returns-then-is_placed-clause-placed c =
    let p = placed_parts c.args.regions.now c.args.low c.le32-place.result c.le32-len.result (sym c.is_placed.ensures ∙ c.if-is_placed.true) in
    record { rises = p.rises; some = omega (arith, p.some); inside = p.inside; covered = p.covered; within = omega (arith, c.requires.within) }

pub returns-else-is_placed-clause-said : goal.returns-else-is_placed-clause-said
returns-else-is_placed-clause-said c = λ file long front.
    judged_misplaced c.args.head.now file c.args.whole c.args.regions.now c.args.low c.args.at c.le32-place.result c.le32-len.result
    (record { long = long; within = c.requires.within; front = front }) c.le32-place.ensures c.le32-len.ensures
    (omega arith) (sym c.is_placed.ensures ∙ c.if-is_placed.false)
