-- `make_parts`: its contract, `AreParts`, that its loop keeps its invariant, and that no number overflows.
use Rattle.std.proofs.Common.{◌+◌, List, [], refl, sym, subst, arith}
use Rattle.flash_session.specs.declared.region_plan.RegionPlan.{RegionPlan}
use Rattle.flm_cli.specs.Steps.{AreParts}
use Rattle.flm_cli.proofs.PlanLemmas.{TakenTo, taken_more, ends_within, taken_all}
use Rattle.flm_cli.proofs.plan.make_parts.Goals as goal

pub loop-algorithm-init : goal.loop-algorithm-init
loop-algorithm-init c = record {
  are = subst (λ (l : List RegionPlan). AreParts [] 0 l) (sym c.new-parts.ensures.items) tt;
  start_is = refl;
}

pub loop-algorithm-preserved : goal.loop-algorithm-preserved
loop-algorithm-preserved c =
    let l = c.loop-algorithm in
    let n = c.in_ok-new.ensures in
    subst (λ (items : List RegionPlan). TakenTo c.args.algorithms.now items (l.start + c.algorithm-item.result.device.size) (l.algorithm-index + 1))
    (sym c.in_ok-push.ensures.items)
    (taken_more c.args.algorithms.now l.parts.items l.start l.algorithm-index c.algorithm-item.result l.invariant c.loop-algorithm-test.true c.algorithm-item.is
    c.in_ok-new.field-0 n.part n.place)

pub overflow_add-start : goal.overflow_add-start
overflow_add-start c =
    let l = c.loop-algorithm in
    omega (
      arith,
      ends_within c.args.algorithms.now l.parts.items l.start l.algorithm-index c.algorithm-item.result l.invariant c.loop-algorithm-test.true
          c.algorithm-item.is,
      c.requires,
    )

pub returns : goal.returns
returns c = taken_all c.args.algorithms.now c.loop-algorithm.parts.items c.loop-algorithm.start c.loop-algorithm.algorithm-index c.loop-algorithm.invariant
    c.loop-algorithm-test.false
