-- `RunList::remove`: that its loop keeps its invariant, and what `remove_one` requires.
use Rattle.std.proofs.Common.{◌≡◌, ◌+◌, ◌∙◌, ◌++◌, ℕ, suc, List, take, drop, ap, arith}
use Rattle.byte_map.specs.Image.{Run}
use Rattle.byte_map.specs.Tree.{taken_out}
use Rattle.byte_map.proofs.Sides.{removed_one, tables}
use Rattle.byte_map.proofs.run_list.RunList.remove.Goals as goal

pub loop-index-preserved : goal.loop-index-preserved
loop-index-preserved c =
    let runs = c.args.self.now in
    let start = c.args.start in
    let index = c.loop-index._index in
    c.remove_one.ensures
    ∙ ap (λ (rs : List Run). taken_out rs start) c.loop-index.invariant
    ∙ removed_one runs start index (omega (arith, c.loop-index.auto._index)) (omega arith)
    ∙ ap (λ (n : ℕ). take start runs ++ drop n runs) (let is : suc index ≡ index + 1 = omega arith in is)

pub remove_one-requires : goal.remove_one-requires
remove_one-requires c = grind (arith, tables)
