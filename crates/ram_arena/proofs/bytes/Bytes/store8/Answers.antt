-- `Bytes::store8`: that it keeps its contract, what `store8` requires, and that its result meets the clauses of its type.
use Rattle.std.proofs.lemmas.Grind.{common_steps}
use Rattle.std.proofs.Common.{ℕ, List, set, sym, ap, ◌∙◌, arith}
use Rattle.ram_arena.proofs.Slots.{start, on, by_name}
use Rattle.ram_arena.proofs.bytes.Bytes.store8.Goals as goal

pub invariant_of-self : goal.invariant_of-self
invariant_of-self c =
    let inv = c.self.invariant in
    let kept = by_name c.store8.new.self.slots c.store8.ensures.1 (on (start c.self.inside.cells.slots c.self.invariant.2) c.args.at c.args.value) in
    (inv.0 ∙ sym c.store8.ensures.0, kept.long ∙ inv.1, kept.full, inv.3, inv.4, inv.5)

pub returns : goal.returns
returns c =
    let kept = by_name c.store8.new.self.slots c.store8.ensures.1 (on (start c.self.inside.cells.slots c.self.invariant.2) c.args.at c.args.value) in
    kept.bytes ∙ ap (λ (l : List ℕ). set l c.args.at c.args.value) c.self.view_is

pub store8-requires : goal.store8-requires
store8-requires c = grind (arith, common_steps)
