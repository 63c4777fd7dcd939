-- `put_printable`: what holds at each turn of its loop.
use Rattle.std.proofs.Common.{take, Ok, [], ◌∷◌}
use Rattle.std.specs.List.{flat_map}
use Rattle.report_text.specs.Inspection.{printable}
use Rattle.outside_io.specs.Puts.{Puts}
use Rattle.report_text.proofs.inspection.put_printable.Given as goal

abbrev pub invariant-loop-byte : goal.invariant-loop-byte
invariant-loop-byte g l = Puts g.O.Sink.tells (g.O.Sink.state l.initial.out) (g.O.Sink.state l.out)
    (flat_map (λ byte. printable byte ∷ []) (take l.byte-index l.name)) (Ok tt)
