-- `Bytes::load16`: its clause `value`, and what `load16` requires.
use Rattle.std.proofs.Common.{ℕ, List, ap, ◌∙◌, arith}
use Rattle.std.proofs.lemmas.Grind.{common_steps}
use Rattle.ram_arena.specs.Words.{word16}
use Rattle.ram_arena.proofs.bytes.Bytes.load16.Goals as goal

pub load16-requires : goal.load16-requires
load16-requires c = grind (arith, common_steps)

pub returns-clause-value : goal.returns-clause-value
returns-clause-value c = c.load16.ensures.0 ∙ ap (λ (l : List ℕ). word16 l c.args.at) c.self.view_is
