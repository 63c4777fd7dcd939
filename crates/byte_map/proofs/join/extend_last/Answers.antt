-- `extend_last`: its clause `ok`.
use Rattle.std.proofs.Common.{ℕ, ◌-◌, ◌∙◌, ◌++◌, List, take, drop, refl, ap, arith}
use Rattle.std.proofs.lemmas.Grind.{common_steps}
use Rattle.byte_map.specs.Image.{Run, run_at}
use Rattle.byte_map.proofs.Grown.{lays_last}
use Rattle.byte_map.proofs.join.extend_last.Goals as goal

pub returns-clause-ok : goal.returns-clause-ok
returns-clause-ok c =
    lays_last (record { at = c.args.at; bytes = c.args.bytes.now }) c.args.runs.now c.remove.new.self c.args.first c.args.last c.requires.can c.requires.some
    c.requires.begins c.requires.ends
    c.get.result.now (run_at c.args.runs.now (c.args.last - 1)) _ (c.at.result - c.args.at) c.deref.result.now _ c.get.ensures refl
    (ap (λ (n : ℕ). n - c.args.at) c.at.ensures ∙ ap (λ (r : Run). r.at - c.args.at) c.get-2.ensures)
    (c.deref.ensures.value ∙ c.in_ok-front.ensures.items ∙ c.bytes_before.ensures)
    refl
    refl
    (c.remove.ensures ∙ ap (λ (rs : List Run). take c.args.first rs ++ drop (c.args.last - 1) rs) c.in_ok-prepend.ensures.ok)

pub prepend-requires-clause-fits : goal.prepend-requires-clause-fits
prepend-requires-clause-fits c = grind (arith, common_steps)

pub slice_bounds-prepend-end : goal.slice_bounds-prepend-end
slice_bounds-prepend-end c = grind (arith, common_steps)

pub remove-requires-clause-within : goal.remove-requires-clause-within
remove-requires-clause-within c = grind (arith, common_steps)

pub overflow_sub-uncovered : goal.overflow_sub-uncovered
overflow_sub-uncovered c = grind (arith, common_steps)
