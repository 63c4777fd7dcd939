-- `Bytes::load8`: its clause `value`, and what `load8` requires.
use Rattle.std.proofs.Common.{ℕ, List, slice_index, ap, ◌∙◌, arith}
use Rattle.std.proofs.lemmas.Grind.{common_steps}
use Rattle.ram_arena.proofs.bytes.Bytes.load8.Goals as goal

pub load8-requires : goal.load8-requires
load8-requires c = grind (arith, common_steps)

pub returns-clause-value : goal.returns-clause-value
returns-clause-value c = c.load8.ensures.0 ∙ ap (λ (l : List ℕ). slice_index l c.args.at) c.self.view_is
