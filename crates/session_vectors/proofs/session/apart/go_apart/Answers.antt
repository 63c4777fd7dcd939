-- `go_apart`: what `put_apart` requires.
use Rattle.std.proofs.Common.{◌∙◌, ℕ, List, length, ap, sym}
use Rattle.session_vectors.proofs.session.apart.go_apart.Goals as goal

pub put_apart-requires-clause-second_file : goal.put_apart-requires-clause-second_file
put_apart-requires-clause-second_file c = λ told. c.in_ok-second.ensures.file ∙ sym c.in_ok-first.ensures.file

pub put_apart-requires-clause-second_count : goal.put_apart-requires-clause-second_count
put_apart-requires-clause-second_count c = ap (λ (l : List ℕ). length l) (c.in_ok-second.ensures.cells ∙ sym c.in_ok-first.ensures.cells)

pub put_apart-requires-clause-third_file : goal.put_apart-requires-clause-third_file
put_apart-requires-clause-third_file c = λ told. c.in_ok-third.ensures.file ∙ sym c.in_ok-first.ensures.file

pub put_apart-requires-clause-third_count : goal.put_apart-requires-clause-third_count
put_apart-requires-clause-third_count c = ap (λ (l : List ℕ). length l) (c.in_ok-third.ensures.cells ∙ sym c.in_ok-first.ensures.cells)

pub put_apart-requires-clause-third_only : goal.put_apart-requires-clause-third_only
put_apart-requires-clause-third_only c = λ told. c.in_ok-third.ensures.only
