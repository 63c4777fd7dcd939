-- `RunList::count_ending_below`: its contract, `IsCut`.
use Rattle.std.proofs.Common.{◌≡◌, ◌≤◌, ◌^◌, ◌∙◌, [], ◌++◌, length, arith, rules, refl, subst, sym, ap}
use Rattle.std.proofs.lemmas.List.{get_or_default}
use Rattle.std.proofs.lemmas.Grind.{common_steps}
use Rattle.byte_map.specs.Image.{Run, run_at, end_of, AreMaximal}
use Rattle.byte_map.specs.Tree.{runs_of}
use Rattle.byte_map.proofs.Runs.{at_rises}
use Rattle.byte_map.proofs.Cuts.{maximal_right, ends_before, cut_left, cut_right, cut_of, recut, cuts}
use Rattle.byte_map.proofs.run_list.RunList.count_ending_below.Goals as goal

pub returns-then-is_empty : goal.returns-then-is_empty
returns-then-is_empty c =
    let s = c.self.inside in
    let none : length s.tail.items ≡ 0 = search rules in
    recut (λ (r : Run). end_of r) (runs_of s.tree ++ s.tail.items) c.args.self.now c.args.address _ _ (sym c.self.view_is) refl
    (cut_left (λ (r : Run). end_of r) (runs_of s.tree) s.tail.items c.args.address c.ending_below.result (λ k lt. absurd (omega (arith, none)))
    c.ending_below.ensures)

pub returns-then-address-from : goal.returns-then-address-from
returns-then-address-from c =
    let s = c.self.inside in
    let some : 1 ≤ length s.tail.items = search rules in
    let first : c.index.result.now ≡ run_at s.tail.items 0 = c.index.ensures ∙ get_or_default s.tail.items 0 _ (record { at = 0; bytes = [] })
    (omega (arith, some)) in
    let maximal = subst (AreMaximal 0 (2 ^ 32)) (sym c.self.view_is) c.requires in
    recut (λ (r : Run). end_of r) (runs_of s.tree ++ s.tail.items) c.args.self.now c.args.address _ _ (sym c.self.view_is) refl
    (cut_left (λ (r : Run). end_of r) (runs_of s.tree) s.tail.items c.args.address c.ending_below-then-address-from.result
    (λ k lt. let up = at_rises (2 ^ 32) s.tail.items 0 k (maximal_right 0 (2 ^ 32) (runs_of s.tree) s.tail.items maximal) (omega arith) lt in
    omega (arith, up, c.from.ensures, c.at.ensures, ap (λ (r : Run). r.at) first))
    c.ending_below-then-address-from.ensures)

pub returns-else-address-from : goal.returns-else-address-from
returns-else-address-from c =
    let s = c.self.inside in
    let some : 1 ≤ length s.tail.items = search rules in
    let first : c.index.result.now ≡ run_at s.tail.items 0 = c.index.ensures ∙ get_or_default s.tail.items 0 _ (record { at = 0; bytes = [] })
    (omega (arith, some)) in
    let maximal = subst (AreMaximal 0 (2 ^ 32)) (sym c.self.view_is) c.requires in
    let cut = cut_of (λ (r : Run). end_of r) s.tail.items c.deref.result.now c.args.address c.ending_in.result c.deref.ensures.value
    c.ending_in.ensures.within c.ending_in.ensures.below c.ending_in.ensures.others in
    recut (λ (r : Run). end_of r) (runs_of s.tree ++ s.tail.items) c.args.self.now c.args.address _ _ (sym c.self.view_is) (omega (arith, c.count_of.ensures))
    (cut_right (λ (r : Run). end_of r) (runs_of s.tree) s.tail.items c.args.address c.ending_in.result
    (λ k lt. let up = ends_before (2 ^ 32) (runs_of s.tree) s.tail.items k maximal some lt in
    omega (arith, up, c.from.ensures, c.at.ensures, ap (λ (r : Run). r.at) first)) cut)

pub ending_below-requires : goal.ending_below-requires
ending_below-requires c = grind (arith, common_steps)

pub ending_below-requires-then-address-from : goal.ending_below-requires-then-address-from
ending_below-requires-then-address-from c = grind (arith, cuts)

pub ending_in-requires : goal.ending_in-requires
ending_in-requires c = grind (arith, cuts)
