-- `put_hash`: what holds at each turn of its loop.
use Rattle.std.proofs.Common.{take, Ok}
use Rattle.report_text.specs.Lines.{hash_text}
use Rattle.outside_io.specs.Puts.{Puts}
use Rattle.report_text.proofs.refusal.put_hash.Given as goal

abbrev pub invariant-loop-byte : goal.invariant-loop-byte
invariant-loop-byte g l = Puts g.E.Sink.tells (g.E.Sink.state l.initial.err) (g.E.Sink.state l.err) (hash_text (take l.byte-index l.hash)) (Ok tt)
