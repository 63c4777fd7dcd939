-- `fill`: that it keeps its contract.
use Rattle.std.proofs.Common.{◌≡◌, subst, sym, arith, ℕ, List, Bool, ◌++◌, length, take, drop}
use Rattle.std.proofs.lemmas.Grind.{common_steps}
use Rattle.bench_model.specs.Kept.{IsFilled}
use Rattle.bench_model.specs.Record.{Recorded, IsMarked, at_rest, events_of, held_now, replay}
use Rattle.bench_model.proofs.MarkLemmas.{filled_by_marks}
use Rattle.bench_model.proofs.record.Record.fill.Goals as goal

pub put_clear-requires-clause-enough : goal.put_clear-requires-clause-enough
put_clear-requires-clause-enough c = grind (arith, common_steps)

pub returns-clause-items : goal.returns-clause-items
returns-clause-items c =
    let r = c.self.inside in
    let k = (replay (events_of r.changes.items r.handed.items) (at_rest r.made_file.items r.made_cells.items)).kept in
    let file = c.put_clear.new.file in
    let bytes = c.deref-2.result.now in
    let p = c.put_clear.ensures in
    let whole = take c.resize.new.self.len (file ++ drop (length file) c.resize.new.self.items) in
    let same : whole ≡ file = grind (arith, common_steps) in
    let marks = subst (λ (m : List Bool). IsMarked k bytes m) (sym c.deref.ensures.value)
    (subst (λ (s : List ℕ). IsMarked k s r.marks.items) (sym c.deref-2.ensures.value) c.self.invariant.is_marked) in
    subst (λ (q : Recorded). IsFilled c.args.value (held_now q).kept whole) c.self.view_is
    (subst (λ (f : List ℕ). IsFilled c.args.value k f) (sym same) (filled_by_marks k bytes c.deref.result.now marks c.args.value file p.long p.set p.clear))
