-- `+ending_below`: that it keeps its contract, `IsCut`.
use Rattle.std.proofs.Common.{◌≡◌, ◌≤◌, ◌-◌, ◌^◌, ◌∙◌, ℕ, [], ◌++◌, length, arith, rules, subst, ap}
use Rattle.std.proofs.lemmas.List.{get_or_default}
use Rattle.std.proofs.lemmas.Grind.{common_steps}
use Rattle.byte_map.specs.Image.{Run, run_at, end_of, AreMaximal}
use Rattle.byte_map.specs.Tree.{runs_of}
use Rattle.byte_map.proofs.Runs.{end_rises}
use Rattle.byte_map.proofs.Cuts.{cut_empty, cut_behind, cut_before, cut_within, cut_of, recut, cuts}
use Rattle.byte_map.proofs.tree.+ending_below.Goals as goal

pub returns-then-is_empty : goal.returns-then-is_empty
returns-then-is_empty t c =
    let node = c.deref-in-Some.inside in
    let runs = runs_of node.left ++ (node.chunk.items ++ runs_of node.right) in
    let is : runs_of c.args.side.now ≡ runs = search rules in
    let rises = λ (i j : ℕ). end_rises (2 ^ 32) runs i j (subst (AreMaximal 0 (2 ^ 32)) is c.requires) in
    let none : length node.chunk.items ≡ 0 = search rules in
    recut (λ (r : Run). end_of r) runs (runs_of c.args.side.now) c.args.address _ _ is (omega arith)
    (cut_empty (λ (r : Run). end_of r) (runs_of node.left) node.chunk.items (runs_of node.right) c.args.address c.ending_below.result
    c.ending_below-then-is_empty.result rises none c.ending_below.ensures c.ending_below-then-is_empty.ensures)

pub returns-then-end-address : goal.returns-then-end-address
returns-then-end-address t c =
    let node = c.deref-in-Some.inside in
    let runs = runs_of node.left ++ (node.chunk.items ++ runs_of node.right) in
    let is : runs_of c.args.side.now ≡ runs = search rules in
    let rises = λ (i j : ℕ). end_rises (2 ^ 32) runs i j (subst (AreMaximal 0 (2 ^ 32)) is c.requires) in
    let some : 1 ≤ length node.chunk.items = search rules in
    let len_is : c.len.result ≡ length node.chunk.items = search rules in
    let last : c.index.result.now ≡ run_at node.chunk.items (length node.chunk.items - 1) =
    c.index.ensures ∙ get_or_default node.chunk.items (c.len.result - 1) _ (record { at = 0; bytes = [] }) (omega (arith, some, len_is)) ∙
    ap (λ (n : ℕ). run_at node.chunk.items (n - 1)) len_is in
    recut (λ (r : Run). end_of r) runs (runs_of c.args.side.now) c.args.address _ _ is (omega (arith, c.count_of.ensures, c.deref-in-Some.invariant))
    (cut_behind (λ (r : Run). end_of r) (runs_of node.left) node.chunk.items (runs_of node.right) c.args.address c.ending_below-then-end-address.result rises
    some (omega (arith, c.end.ensures.end, ap (λ (r : Run). end_of r) last)) c.ending_below-then-end-address.ensures)

pub returns-then-address-end : goal.returns-then-address-end
returns-then-address-end t c =
    let node = c.deref-in-Some.inside in
    let runs = runs_of node.left ++ (node.chunk.items ++ runs_of node.right) in
    let is : runs_of c.args.side.now ≡ runs = search rules in
    let rises = λ (i j : ℕ). end_rises (2 ^ 32) runs i j (subst (AreMaximal 0 (2 ^ 32)) is c.requires) in
    let some : 1 ≤ length node.chunk.items = search rules in
    let first : c.index-else-end-address.result.now ≡ run_at node.chunk.items 0 = c.index-else-end-address.ensures ∙
    get_or_default node.chunk.items 0 _ (record { at = 0; bytes = [] }) (omega (arith, some)) in
    recut (λ (r : Run). end_of r) runs (runs_of c.args.side.now) c.args.address _ _ is (omega arith)
    (cut_before (λ (r : Run). end_of r) (runs_of node.left) node.chunk.items (runs_of node.right) c.args.address c.ending_below-then-address-end.result rises
    some (omega (arith, c.end-else-end-address.ensures.end, ap (λ (r : Run). end_of r) first)) c.ending_below-then-address-end.ensures)

pub returns-else-address-end : goal.returns-else-address-end
returns-else-address-end t c =
    let node = c.deref-in-Some.inside in
    let runs = runs_of node.left ++ (node.chunk.items ++ runs_of node.right) in
    let is : runs_of c.args.side.now ≡ runs = search rules in
    let rises = λ (i j : ℕ). end_rises (2 ^ 32) runs i j (subst (AreMaximal 0 (2 ^ 32)) is c.requires) in
    let some : 1 ≤ length node.chunk.items = search rules in
    let len_is : c.len.result ≡ length node.chunk.items = search rules in
    let last : c.index.result.now ≡ run_at node.chunk.items (length node.chunk.items - 1) =
    c.index.ensures ∙ get_or_default node.chunk.items (c.len.result - 1) _ (record { at = 0; bytes = [] }) (omega (arith, some, len_is)) ∙
    ap (λ (n : ℕ). run_at node.chunk.items (n - 1)) len_is in
    let first : c.index-else-end-address.result.now ≡ run_at node.chunk.items 0 = c.index-else-end-address.ensures ∙
    get_or_default node.chunk.items 0 _ (record { at = 0; bytes = [] }) (omega (arith, some)) in
    let same : c.deref-else-address-end.result.now ≡ node.chunk.items = c.deref-else-address-end.ensures.value in
    let cut = cut_of (λ (r : Run). end_of r) node.chunk.items c.deref-else-address-end.result.now c.args.address c.ending_in.result same
    c.ending_in.ensures.within c.ending_in.ensures.below c.ending_in.ensures.others in
    recut (λ (r : Run). end_of r) runs (runs_of c.args.side.now) c.args.address _ _ is (search rules)
    (cut_within (λ (r : Run). end_of r) (runs_of node.left) node.chunk.items (runs_of node.right) c.args.address c.ending_in.result rises some
    (omega (arith, c.end-else-end-address.ensures.end, ap (λ (r : Run). end_of r) first))
    (omega (arith, c.end.ensures.end, ap (λ (r : Run). end_of r) last)) cut)

pub ending_below-requires-then-address-end : goal.ending_below-requires-then-address-end
ending_below-requires-then-address-end t c = grind (arith, cuts)

pub ending_below-requires-then-end-address : goal.ending_below-requires-then-end-address
ending_below-requires-then-end-address t c = grind (arith, cuts)

pub ending_below-requires-then-is_empty : goal.ending_below-requires-then-is_empty
ending_below-requires-then-is_empty t c = grind (arith, cuts)

pub ending_below-requires : goal.ending_below-requires
ending_below-requires t c = grind (arith, cuts)

pub index-requires-else-end-address : goal.index-requires-else-end-address
index-requires-else-end-address t c = grind (arith, common_steps)

pub ending_in-requires : goal.ending_in-requires
ending_in-requires t c = grind (arith, cuts)
