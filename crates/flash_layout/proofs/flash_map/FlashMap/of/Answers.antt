-- `FlashMap::of`: that its result meets the clauses of its type, that it keeps its contract, and that its loop keeps its invariant.
use Rattle.std.proofs.Common.{◌≡◌, subst, List, drop, [], arith}
use Rattle.std.proofs.lemmas.Grind.{common_steps}
use Rattle.std.proofs.lemmas.List.{drop_all}
use Rattle.board_file.specs.declared.region.Region.{Region}
use Rattle.flash_layout.proofs.BoardLemmas.{LaysOut, lays_out, all_taken}
use Rattle.flash_layout.proofs.flash_map.FlashMap.of.Goals as goal

pub invariant_of-result : goal.invariant_of-result
invariant_of-result c =
    let nil : drop c.loop-region.region-index c.args.board.now.regions ≡ [] =
    subst (λ (l : List Region). drop c.loop-region.region-index l ≡ []) c.as_slice-region-items.ensures (drop_all _ _ c.loop-region-test.false) in
    let both = all_taken c.args.board.now.regions c.loop-region.region-index c.loop-region.areas.items c.loop-region.runs.items nil c.loop-region.invariant in
    let laid : LaysOut c.loop-region.areas.items c.loop-region.runs.items =
    lays_out c.args.board.now.regions _ _ both.0 both.1 c.args.board.now.some_region c.args.board.now.regions_fit c.args.board.now.few_cells in
    record { some_area = laid.some_area; areas_fit = laid.areas_fit; runs_fit = laid.runs_fit; whole = laid.whole; few = laid.few }

pub returns : goal.returns
returns c = grind (arith, common_steps)

pub loop-region-preserved : goal.loop-region-preserved
loop-region-preserved c = grind (arith, common_steps)
