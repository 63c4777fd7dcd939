-- `Bytes::store16`: that it keeps its contract, what `store16` requires, and that its result meets the clauses of its type.
use Rattle.std.proofs.lemmas.Grind.{common_steps}
use Rattle.std.proofs.Common.{ℕ, ◌+◌, ◌/◌, ◌%◌, List, sym, ap, ◌∙◌, arith}
use Rattle.ram_arena.specs.Words.{with16}
use Rattle.ram_arena.proofs.Slots.{start, on, by_name}
use Rattle.ram_arena.proofs.bytes.Bytes.store16.Goals as goal

pub invariant_of-self : goal.invariant_of-self
invariant_of-self c =
    let inv = c.self.invariant in
    let kept = by_name c.store16.new.self.slots c.store16.ensures.1
    (on (on (start c.self.inside.cells.slots c.self.invariant.2) c.args.at (c.args.value % 0x100)) (c.args.at + 1) (c.args.value / 0x100)) in
    (inv.0 ∙ sym c.store16.ensures.0, kept.long ∙ inv.1, kept.full, inv.3, inv.4, inv.5)

pub returns : goal.returns
returns c =
    let kept = by_name c.store16.new.self.slots c.store16.ensures.1
    (on (on (start c.self.inside.cells.slots c.self.invariant.2) c.args.at (c.args.value % 0x100)) (c.args.at + 1) (c.args.value / 0x100)) in
    kept.bytes ∙ ap (λ (l : List ℕ). with16 l c.args.at c.args.value) c.self.view_is

pub store16-requires : goal.store16-requires
store16-requires c = grind (arith, common_steps)
