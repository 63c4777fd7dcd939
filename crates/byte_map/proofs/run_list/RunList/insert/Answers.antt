-- `RunList::insert`: its clause `ok`, and that what it changes stays as its type asks.
use Rattle.std.proofs.Common.{◌≡◌, ◌-◌, ◌∙◌, ℕ, List, [], ◌∷◌, ◌++◌, length, arith, rules, sym, ap}
use Rattle.std.proofs.lemmas.Grind.{common_steps}
use Rattle.byte_map.specs.Image.{Run}
use Rattle.byte_map.specs.Tree.{runs_of, put_in}
use Rattle.byte_map.proofs.Sides.{put_right, sides}
use Rattle.byte_map.proofs.run_list.RunList.insert.Goals as goal

pub returns-clause-ok : goal.returns-clause-ok
returns-clause-ok c =
    let s = c.self.inside in
    let new = c.args.run ∷ [] in
    let count : c.count_of-count.result ≡ length (runs_of s.tree) = c.count_of-count.ensures in
    let items : c.insert-2.new.self.items ≡ put_in s.tail.items (c.args.index - c.count_of-count.result) new = search rules in
    c.shorten_tail.ensures
    ∙ ap (λ (rs : List Run). runs_of s.tree ++ rs) items
    ∙ ap (λ (k : ℕ). runs_of s.tree ++ put_in s.tail.items (c.args.index - k) new) count
    ∙ sym (put_right (runs_of s.tree) s.tail.items new c.args.index (omega (arith, count)))
    ∙ ap (λ (rs : List Run). put_in rs c.args.index new) c.self.view_is

pub invariant_of-self-2 : goal.invariant_of-self-2
invariant_of-self-2 c = grind (arith, sides)

pub invariant_of-self-then-index-count : goal.invariant_of-self-then-index-count
invariant_of-self-then-index-count c = grind (arith, common_steps)

pub insert-requires-clause-few : goal.insert-requires-clause-few
insert-requires-clause-few c = grind (arith, common_steps)

pub invariant_of-self : goal.invariant_of-self
invariant_of-self c = grind (arith, common_steps)

pub returns-then-index-count-clause-ok : goal.returns-then-index-count-clause-ok
returns-then-index-count-clause-ok c = grind (arith, common_steps)

pub insert-requires-2 : goal.insert-requires-2
insert-requires-2 c = grind (arith, common_steps)
