-- `Bytes::store32`: that it keeps its contract, what `store32` requires, and that its result meets the clauses of its type.
use Rattle.std.proofs.lemmas.Grind.{common_steps}
use Rattle.std.proofs.Common.{ℕ, ◌+◌, ◌/◌, ◌%◌, List, sym, ap, ◌∙◌, arith}
use Rattle.ram_arena.specs.Words.{with32}
use Rattle.ram_arena.proofs.Slots.{start, on, by_name}
use Rattle.ram_arena.proofs.bytes.Bytes.store32.Goals as goal

pub invariant_of-self : goal.invariant_of-self
invariant_of-self c =
    let inv = c.self.invariant in
    let kept = by_name c.store32.new.self.slots c.store32.ensures.1
    (on (on (on (on (start c.self.inside.cells.slots c.self.invariant.2) c.args.at (c.args.value % 0x100)) (c.args.at + 1) (c.args.value / 0x100 % 0x100))
    (c.args.at + 2) (c.args.value / 0x10000 % 0x100)) (c.args.at + 3) (c.args.value / 0x1000000)) in
    (inv.0 ∙ sym c.store32.ensures.0, kept.long ∙ inv.1, kept.full, inv.3, inv.4, inv.5)

pub returns : goal.returns
returns c =
    let kept = by_name c.store32.new.self.slots c.store32.ensures.1
    (on (on (on (on (start c.self.inside.cells.slots c.self.invariant.2) c.args.at (c.args.value % 0x100)) (c.args.at + 1) (c.args.value / 0x100 % 0x100))
    (c.args.at + 2) (c.args.value / 0x10000 % 0x100)) (c.args.at + 3) (c.args.value / 0x1000000)) in
    kept.bytes ∙ ap (λ (l : List ℕ). with32 l c.args.at c.args.value) c.self.view_is

pub store32-requires : goal.store32-requires
store32-requires c = grind (arith, common_steps)
