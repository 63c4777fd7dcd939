-- `put_visible`: what holds at each turn of its loop.
use Rattle.std.proofs.Common.{take, Ok, [], ◌∷◌}
use Rattle.std.specs.List.{flat_map}
use Rattle.report_text.specs.Lines.{visible}
use Rattle.outside_io.specs.Puts.{Puts}
use Rattle.report_text.proofs.refusal.put_visible.Given as goal

abbrev pub invariant-loop-byte : goal.invariant-loop-byte
invariant-loop-byte g l = Puts g.E.Sink.tells (g.E.Sink.state l.initial.err) (g.E.Sink.state l.err)
    (flat_map (λ byte. visible byte ∷ []) (take l.byte-index l.name)) (Ok tt)
