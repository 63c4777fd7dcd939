-- `extend_first`: its clause `ok`, and what `append` requires.
use Rattle.std.proofs.Common.{ℕ, ◌+◌, ◌-◌, ◌∙◌, ◌++◌, List, take, drop, refl, ap, arith, length}
use Rattle.std.proofs.lemmas.Grind.{common_steps}
use Rattle.byte_map.specs.Image.{Run, run_at, end_of}
use Rattle.byte_map.specs.Joining.{back_of}
use Rattle.byte_map.proofs.Grown.{lays_first, append_fits}
use Rattle.byte_map.proofs.join.extend_first.Goals as goal

pub append-requires-clause-fits : goal.append-requires-clause-fits
append-requires-clause-fits c =
    append_fits (record { at = c.args.at; bytes = c.args.bytes.now }) c.args.runs.now c.args.first c.args.last c.requires.can c.requires.some c.requires.ends
    (run_at c.args.runs.now c.args.first) c.get.result.now (c.end.result - c.from-2.result) c.deref.result.now refl c.get.ensures
    (omega (arith, c.end.ensures.end, ap (λ (r : Run). end_of r) c.get-2.ensures))
    (c.deref.ensures.value ∙ c.in_ok-back.ensures.items ∙ c.bytes_from.ensures ∙
    ap (λ (n : ℕ). back_of c.get.result.now (n + length c.args.bytes.now)) c.from.ensures)

pub returns-clause-ok : goal.returns-clause-ok
returns-clause-ok c =
    lays_first (record { at = c.args.at; bytes = c.args.bytes.now }) c.args.runs.now c.remove.new.self c.args.first c.args.last c.requires.can c.requires.some
    c.requires.begins c.requires.ends
    (run_at c.args.runs.now c.args.first) c.get.result.now _ (c.end.result - c.from-2.result) c.deref.result.now refl c.get.ensures
    (omega (arith, c.end.ensures.end, ap (λ (r : Run). end_of r) c.get-2.ensures))
    (c.deref.ensures.value ∙ c.in_ok-back.ensures.items ∙ c.bytes_from.ensures ∙
    ap (λ (n : ℕ). back_of c.get.result.now (n + length c.args.bytes.now)) c.from.ensures)
    refl
    (c.remove.ensures ∙ ap (λ (rs : List Run). take (c.args.first + 1) rs ++ drop c.args.last rs) c.in_ok-append.ensures.ok)

pub slice_bounds-append-count : goal.slice_bounds-append-count
slice_bounds-append-count c = grind (arith, common_steps)

pub remove-requires-clause-within : goal.remove-requires-clause-within
remove-requires-clause-within c = grind (arith, common_steps)

pub slice_bounds-append-start : goal.slice_bounds-append-start
slice_bounds-append-start c = grind (arith, common_steps)
