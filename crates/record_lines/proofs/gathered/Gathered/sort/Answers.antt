-- `Gathered::sort`: its contract, `IsPermutation`, and that its result meets the clauses of its type.
use Rattle.std.proofs.lemmas.List.Sorted.{All-permutation, IsPermutation-map}
use Rattle.record_lines.specs.Gathered.{run_of, IsInside}
use Rattle.record_lines.proofs.gathered.Gathered.sort.Goals as goal

pub invariant_of-self : goal.invariant_of-self
invariant_of-self c =
    All-permutation (IsInside c.self.inside.bytes.items) c.self.inside.pieces.items c.sort_by_key.new.self.items c.sort_by_key.ensures.permutation
    c.self.invariant

pub returns : goal.returns
returns c =
    rw (← c.self.view_is) (IsPermutation-map (run_of c.self.inside.bytes.items) c.self.inside.pieces.items c.sort_by_key.new.self.items
    c.sort_by_key.ensures.permutation)
