-- `put_parts`: its contract, `Puts`, that its loop keeps its invariant, and what `put_part` requires.
use Rattle.std.proofs.Common.{◌≤◌, ◌+◌, ◌^◌, ◌∙◌, List, ap, sym, subst, length, nat_lt}
use Rattle.std.specs.List.{flat_map}
use Rattle.std.proofs.lemmas.List.{take_all}
use Rattle.flash_session.specs.declared.region_plan.RegionPlan.{RegionPlan}
use Rattle.outside_io.proofs.PutTexts.{puts_nothing, puts_as, puts_failed, puts_more, puts_breaks}
use Rattle.flm_cli.specs.Steps.{part_text}
use Rattle.flm_cli.proofs.PlanLemmas.{all_texts}
use Rattle.flm_cli.proofs.plan.put_parts.Goals as goal

pub put_part-requires : goal.put_part-requires
put_part-requires g c =
    subst (λ (p : RegionPlan). p.base + p.geometry.size ≤ 2 ^ 32) (sym c.part-item.is)
    (c.requires c.loop-part.part-index c.part-item.result c.loop-part-test.true)

pub loop-part-init : goal.loop-part-init
loop-part-init g c = puts_nothing _ _ _

pub loop-part-preserved : goal.loop-part-preserved
loop-part-preserved g c =
    let text = λ (p : RegionPlan). part_text (nat_lt 1 (length c.args.parts.now)) p in
    puts_more text _ _ c.part-item.result c.loop-part-test.true c.loop-part.invariant (puts_as (ap text c.part-item.is) c.in_ok-put_part.ensures)

pub returns-in_err-put_part : goal.returns-in_err-put_part
returns-in_err-put_part g c =
    let text = λ (p : RegionPlan). part_text (nat_lt 1 (length c.args.parts.now)) p in
    puts_failed _ c.from_residual.ensures.0
    (puts_as (all_texts c.args.parts.now) (puts_breaks text _ _ c.part-item.result c.loop-part-test.true c.loop-part.invariant
    (puts_as (ap text c.part-item.is) c.in_err-put_part.ensures)))

pub returns : goal.returns
returns g c =
    let text = λ (p : RegionPlan). part_text (nat_lt 1 (length c.args.parts.now)) p in
    puts_as (ap (λ (l : List RegionPlan). flat_map text l) (take_all c.loop-part.part-index c.args.parts.now c.loop-part-test.false) ∙
    all_texts c.args.parts.now)
    c.loop-part.invariant
