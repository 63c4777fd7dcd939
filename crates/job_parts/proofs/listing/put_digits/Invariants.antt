-- `put_digits`: what holds at each turn of its loop.
use Rattle.std.proofs.Common.{take, Ok}
use Rattle.report_text.specs.Lines.{hash_text}
use Rattle.outside_io.specs.Puts.{Puts}
use Rattle.job_parts.proofs.listing.put_digits.Given as goal

abbrev pub invariant-loop-byte : goal.invariant-loop-byte
invariant-loop-byte g l = Puts g.O.Sink.tells (g.O.Sink.state l.initial.out) (g.O.Sink.state l.out) (hash_text (take l.byte-index l.hash)) (Ok tt)
