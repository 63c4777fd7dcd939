-- `+insert`: that it keeps its contract.
use Rattle.std.proofs.Common.{◌≡◌, ◌-◌, ◌∙◌, ℕ, List, [], ◌∷◌, ◌++◌, length, arith, rules, sym, ap, append_assoc}
use Rattle.std.proofs.lemmas.Grind.{common_steps}
use Rattle.byte_map.specs.Image.{Run}
use Rattle.byte_map.specs.Tree.{runs_of, put_in}
use Rattle.byte_map.proofs.Sides.{put_second, put_third, sides}
use Rattle.byte_map.proofs.tree.+insert.Goals as goal

pub returns-then-len-place-clause-ok : goal.returns-then-len-place-clause-ok
returns-then-len-place-clause-ok t c =
    let n = c.node.inside in
    let new = c.args.run ∷ [] in
    let whole : runs_of n.left ++ (n.chunk.items ++ runs_of n.right) ≡ runs_of c.args.side.now = search rules in
    let before : c.count_of-before.result ≡ length (runs_of n.left) = c.count_of-before.ensures in
    let len : c.len-len.result ≡ length n.chunk.items = search rules in
    c.settle-then-len-place.ensures
    ∙ ap (λ (rs : List Run). runs_of n.left ++ (n.chunk.items ++ rs)) c.in_ok-added-2.ensures.ok
    ∙ ap (λ (k : ℕ). runs_of n.left ++ (n.chunk.items ++ put_in (runs_of n.right) k new))
    (let is : c.args.index - c.count_of-before.result - c.len-len.result ≡ c.args.index - length (runs_of n.left) - length n.chunk.items =
    omega (arith, before, len) in is)
    ∙ sym (put_third (runs_of n.left) n.chunk.items (runs_of n.right) new c.args.index (omega (arith, before)) (omega (arith, before, len)))
    ∙ ap (λ (rs : List Run). put_in rs c.args.index new) whole

pub returns-clause-ok : goal.returns-clause-ok
returns-clause-ok t c =
    let n = c.node.inside in
    let new = c.args.run ∷ [] in
    let whole : runs_of n.left ++ (n.chunk.items ++ runs_of n.right) ≡ runs_of c.args.side.now = search rules in
    let before : c.count_of-before.result ≡ length (runs_of n.left) = c.count_of-before.ensures in
    let len : c.len-len.result ≡ length n.chunk.items = search rules in
    let chunk = c.put_in_chunk.new.chunk.items in
    let behind : runs_of c.put_before.result ≡ runs_of c.in_ok-rest.rest ++ runs_of n.right = search rules in
    c.settle-2.ensures
    ∙ ap (λ (rs : List Run). runs_of n.left ++ (chunk ++ rs)) behind
    ∙ ap (λ (rs : List Run). runs_of n.left ++ rs) (sym (append_assoc chunk (runs_of c.in_ok-rest.rest) (runs_of n.right)))
    ∙ ap (λ (rs : List Run). runs_of n.left ++ (rs ++ runs_of n.right)) (sym c.in_ok-rest.ensures.ok)
    ∙ ap (λ (k : ℕ). runs_of n.left ++ (put_in n.chunk.items k new ++ runs_of n.right))
    (let is : c.args.index - c.count_of-before.result ≡ c.args.index - length (runs_of n.left) = omega (arith, before) in is)
    ∙ sym (put_second (runs_of n.left) n.chunk.items (runs_of n.right) new c.args.index (omega (arith, before)) (omega (arith, before, len)))
    ∙ ap (λ (rs : List Run). put_in rs c.args.index new) whole

pub overflow_add-node-2 : goal.overflow_add-node-2
overflow_add-node-2 t c = grind (arith, sides)

pub overflow_add-node-then-len-place : goal.overflow_add-node-then-len-place
overflow_add-node-then-len-place t c = grind (arith, sides)

pub overflow_add-node : goal.overflow_add-node
overflow_add-node t c = grind (arith, sides)

pub insert-requires : goal.insert-requires
insert-requires t c = grind (arith, sides)

pub invariant_of-node-2 : goal.invariant_of-node-2
invariant_of-node-2 t c = grind (arith, sides)

pub insert-requires-then-len-place : goal.insert-requires-then-len-place
insert-requires-then-len-place t c = grind (arith, sides)

pub invariant_of-node-then-len-place : goal.invariant_of-node-then-len-place
invariant_of-node-then-len-place t c = grind (arith, common_steps)

pub invariant_of-node-then-index-before : goal.invariant_of-node-then-index-before
invariant_of-node-then-index-before t c = grind (arith, common_steps)

pub returns-then-index-before-clause-ok : goal.returns-then-index-before-clause-ok
returns-then-index-before-clause-ok t c = grind (arith, common_steps)

pub put_before-requires : goal.put_before-requires
put_before-requires t c = grind (arith, sides)

pub invariant_of-node : goal.invariant_of-node
invariant_of-node t c = grind (arith, common_steps)

pub invariant_of-node-in-Break-branch-3 : goal.invariant_of-node-in-Break-branch-3
invariant_of-node-in-Break-branch-3 t c = grind (arith, common_steps)

pub invariant_of-node-in-Break-branch-2 : goal.invariant_of-node-in-Break-branch-2
invariant_of-node-in-Break-branch-2 t c = grind (arith, common_steps)
