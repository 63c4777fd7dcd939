-- `put_items`: what holds at each turn of its loop.
use Rattle.std.proofs.Common.{take, Ok}
use Rattle.std.specs.List.{flat_map}
use Rattle.report_text.specs.Inspection.{item_text}
use Rattle.outside_io.specs.Puts.{Puts}
use Rattle.report_text.proofs.inspection.put_items.Given as goal

abbrev pub invariant-loop-item : goal.invariant-loop-item
invariant-loop-item g l = Puts g.O.Sink.tells (g.O.Sink.state l.initial.out) (g.O.Sink.state l.out) (flat_map item_text (take l.item-index l.items)) (Ok tt)
