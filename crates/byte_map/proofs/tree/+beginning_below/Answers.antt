-- `+beginning_below`: that it keeps its contract, `IsCut`.
use Rattle.std.proofs.Common.{◌≡◌, ◌≤◌, ◌-◌, ◌^◌, ◌∙◌, ℕ, [], ◌++◌, length, arith, rules, subst, ap}
use Rattle.std.proofs.lemmas.List.{get_or_default}
use Rattle.std.proofs.lemmas.Grind.{common_steps}
use Rattle.byte_map.specs.Image.{Run, run_at, AreMaximal}
use Rattle.byte_map.specs.Tree.{runs_of}
use Rattle.byte_map.proofs.Runs.{at_rises}
use Rattle.byte_map.proofs.Cuts.{cut_empty, cut_behind, cut_before, cut_within, cut_of, recut, cuts}
use Rattle.byte_map.proofs.tree.+beginning_below.Goals as goal

pub returns-then-is_empty : goal.returns-then-is_empty
returns-then-is_empty t c =
    let node = c.deref-in-Some.inside in
    let runs = runs_of node.left ++ (node.chunk.items ++ runs_of node.right) in
    let is : runs_of c.args.side.now ≡ runs = search rules in
    let rises = λ (i j : ℕ). at_rises (2 ^ 32) runs i j (subst (AreMaximal 0 (2 ^ 32)) is c.requires) in
    let none : length node.chunk.items ≡ 0 = search rules in
    recut (λ (r : Run). r.at) runs (runs_of c.args.side.now) c.args.address _ _ is (omega arith)
    (cut_empty (λ (r : Run). r.at) (runs_of node.left) node.chunk.items (runs_of node.right) c.args.address c.beginning_below.result
    c.beginning_below-then-is_empty.result rises none c.beginning_below.ensures c.beginning_below-then-is_empty.ensures)

pub returns-then-from-address : goal.returns-then-from-address
returns-then-from-address t c =
    let node = c.deref-in-Some.inside in
    let runs = runs_of node.left ++ (node.chunk.items ++ runs_of node.right) in
    let is : runs_of c.args.side.now ≡ runs = search rules in
    let rises = λ (i j : ℕ). at_rises (2 ^ 32) runs i j (subst (AreMaximal 0 (2 ^ 32)) is c.requires) in
    let some : 1 ≤ length node.chunk.items = search rules in
    let len_is : c.len.result ≡ length node.chunk.items = search rules in
    let last : c.index.result.now ≡ run_at node.chunk.items (length node.chunk.items - 1) =
    c.index.ensures ∙ get_or_default node.chunk.items (c.len.result - 1) _ (record { at = 0; bytes = [] }) (omega (arith, some, len_is)) ∙
    ap (λ (n : ℕ). run_at node.chunk.items (n - 1)) len_is in
    recut (λ (r : Run). r.at) runs (runs_of c.args.side.now) c.args.address _ _ is (omega (arith, c.count_of.ensures, c.deref-in-Some.invariant))
    (cut_behind (λ (r : Run). r.at) (runs_of node.left) node.chunk.items (runs_of node.right) c.args.address c.beginning_below-then-from-address.result rises
    some (omega (arith, c.at.ensures, c.from.ensures, ap (λ (r : Run). r.at) last)) c.beginning_below-then-from-address.ensures)

pub returns-then-address-from : goal.returns-then-address-from
returns-then-address-from t c =
    let node = c.deref-in-Some.inside in
    let runs = runs_of node.left ++ (node.chunk.items ++ runs_of node.right) in
    let is : runs_of c.args.side.now ≡ runs = search rules in
    let rises = λ (i j : ℕ). at_rises (2 ^ 32) runs i j (subst (AreMaximal 0 (2 ^ 32)) is c.requires) in
    let some : 1 ≤ length node.chunk.items = search rules in
    let first : c.index-else-from-address.result.now ≡ run_at node.chunk.items 0 = c.index-else-from-address.ensures ∙
    get_or_default node.chunk.items 0 _ (record { at = 0; bytes = [] }) (omega (arith, some)) in
    recut (λ (r : Run). r.at) runs (runs_of c.args.side.now) c.args.address _ _ is (omega arith)
    (cut_before (λ (r : Run). r.at) (runs_of node.left) node.chunk.items (runs_of node.right) c.args.address c.beginning_below-then-address-from.result rises
    some (omega (arith, c.at-else-from-address.ensures, c.from-else-from-address.ensures, ap (λ (r : Run). r.at) first))
    c.beginning_below-then-address-from.ensures)

pub returns-else-address-from : goal.returns-else-address-from
returns-else-address-from t c =
    let node = c.deref-in-Some.inside in
    let runs = runs_of node.left ++ (node.chunk.items ++ runs_of node.right) in
    let is : runs_of c.args.side.now ≡ runs = search rules in
    let rises = λ (i j : ℕ). at_rises (2 ^ 32) runs i j (subst (AreMaximal 0 (2 ^ 32)) is c.requires) in
    let some : 1 ≤ length node.chunk.items = search rules in
    let len_is : c.len.result ≡ length node.chunk.items = search rules in
    let last : c.index.result.now ≡ run_at node.chunk.items (length node.chunk.items - 1) =
    c.index.ensures ∙ get_or_default node.chunk.items (c.len.result - 1) _ (record { at = 0; bytes = [] }) (omega (arith, some, len_is)) ∙
    ap (λ (n : ℕ). run_at node.chunk.items (n - 1)) len_is in
    let first : c.index-else-from-address.result.now ≡ run_at node.chunk.items 0 = c.index-else-from-address.ensures ∙
    get_or_default node.chunk.items 0 _ (record { at = 0; bytes = [] }) (omega (arith, some)) in
    let same : c.deref-else-address-from.result.now ≡ node.chunk.items = c.deref-else-address-from.ensures.value in
    let cut = cut_of (λ (r : Run). r.at) node.chunk.items c.deref-else-address-from.result.now c.args.address c.beginning_in.result same
    c.beginning_in.ensures.within c.beginning_in.ensures.below c.beginning_in.ensures.others in
    recut (λ (r : Run). r.at) runs (runs_of c.args.side.now) c.args.address _ _ is (search rules)
    (cut_within (λ (r : Run). r.at) (runs_of node.left) node.chunk.items (runs_of node.right) c.args.address c.beginning_in.result rises some
    (omega (arith, c.at-else-from-address.ensures, c.from-else-from-address.ensures, ap (λ (r : Run). r.at) first))
    (omega (arith, c.at.ensures, c.from.ensures, ap (λ (r : Run). r.at) last)) cut)

pub beginning_below-requires-then-address-from : goal.beginning_below-requires-then-address-from
beginning_below-requires-then-address-from t c = grind (arith, cuts)

pub beginning_below-requires-then-from-address : goal.beginning_below-requires-then-from-address
beginning_below-requires-then-from-address t c = grind (arith, cuts)

pub beginning_below-requires-then-is_empty : goal.beginning_below-requires-then-is_empty
beginning_below-requires-then-is_empty t c = grind (arith, cuts)

pub beginning_below-requires : goal.beginning_below-requires
beginning_below-requires t c = grind (arith, cuts)

pub index-requires-else-from-address : goal.index-requires-else-from-address
index-requires-else-from-address t c = grind (arith, common_steps)

pub beginning_in-requires : goal.beginning_in-requires
beginning_in-requires t c = grind (arith, cuts)
