-- `FlashMap::find`: that it keeps its contract, that its loop keeps its invariant, and that no number overflows.
use Rattle.std.proofs.Common.{◌∙◌, ap, sym, List, arith}
use Rattle.std.proofs.lemmas.Grind.{common_steps}
use Rattle.std.proofs.lemmas.List.{drop_all}
use Rattle.flash_layout.specs.declared.area.Area.{Area}
use Rattle.flash_layout.specs.Areas.{find}
use Rattle.flash_layout.proofs.FindLemmas.{looked_found, looked_on, looked_none, access_inside}
use Rattle.flash_layout.proofs.flash_map.FlashMap.find.Goals as goal

pub returns-then-holds-clause-value : goal.returns-then-holds-clause-value
returns-then-holds-clause-value c =
    looked_found c.deref-area-items.result.now c.args.at c.loop-area.area-index c.loop-area.from _ c.loop-area-test.true (sym c.holds.ensures ∙ c.if-holds.true)
    c.loop-area.invariant ∙ ap (λ (l : List Area). find l 0 c.args.at) c.deref-area-items.ensures.value

pub returns-then-holds-clause-inside : goal.returns-then-holds-clause-inside
returns-then-holds-clause-inside c =
    access_inside c.args.self.now.areas.items c.args.at _ c.args.self.now.areas_fit (sym (returns-then-holds-clause-value c))

pub loop-area-preserved : goal.loop-area-preserved
loop-area-preserved c =
    looked_on c.deref-area-items.result.now c.args.at c.loop-area.area-index c.loop-area.from _ c.loop-area-test.true (sym c.holds.ensures ∙ c.if-holds.false)
    c.loop-area.invariant

pub returns-clause-value : goal.returns-clause-value
returns-clause-value c =
    looked_none c.deref-area-items.result.now c.args.at c.loop-area.area-index c.loop-area.from (drop_all _ _ c.loop-area-test.false) c.loop-area.invariant ∙
    ap (λ (l : List Area). find l 0 c.args.at) c.deref-area-items.ensures.value

pub overflow_add-place : goal.overflow_add-place
overflow_add-place c = grind (arith, common_steps)

pub overflow_add-from : goal.overflow_add-from
overflow_add-from c = grind (arith, common_steps)

pub overflow_sub-place : goal.overflow_sub-place
overflow_sub-place c = grind (arith, common_steps)
