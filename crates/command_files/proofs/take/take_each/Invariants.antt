-- `take_each`: what holds at each turn of its loop.
use Rattle.std.proofs.Common.{◌≤◌, ℕ, All, List, length}
use Rattle.command_words.specs.Names.{names_of}
use Rattle.command_files.proofs.TakeLemmas.{TakenSoFar}
use Rattle.command_files.proofs.take.take_each.Given as goal

abbrev pub invariant-loop-index : goal.invariant-loop-index
invariant-loop-index g l = record {
  so_far : TakenSoFar g.I.Inputs.tells (g.I.Inputs.state l.initial.inputs) (g.I.Inputs.state l.inputs) (names_of l.names) l.files.items l.index;
  short : All (λ (file : List ℕ). length file ≤ 67108864) l.files.items;
  may_take : (name : List ℕ) → g.I.Inputs.may_take l.initial.inputs name → g.I.Inputs.may_take l.inputs name;
}
