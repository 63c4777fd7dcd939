-- `Gathered::add_all`: what holds at each turn of its loop.
use Rattle.std.proofs.Common.{take, Ok}
use Rattle.std.specs.List.{flat_map}
use Rattle.outside_io.specs.Gathers.{Gathers}
use Rattle.outside_io.proofs.gathered.Gathered.add_all.Given as goal

abbrev pub invariant-loop-piece : goal.invariant-loop-piece
invariant-loop-piece g l = Gathers g.O.Sink.tells (g.O.Sink.state l.initial.out) (g.O.Sink.state l.out) l.initial.self l.self
    (flat_map (λ piece. piece.now) (take l.piece-index l.pieces)) (Ok tt)
