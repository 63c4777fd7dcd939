-- `gather_digits`: what holds at each turn of its loop.
use Rattle.std.proofs.Common.{◌≡◌, ◌++◌, ◌+◌, ◌*◌, length, take}
use Rattle.image_more.specs.Texts.{digits}
use Rattle.image_more.proofs.line.gather_digits.Given as goal

abbrev pub invariant-loop-byte : goal.invariant-loop-byte
invariant-loop-byte g l = (l.line.items ≡ l.mark ++ digits (take l.byte-index l.bytes)) × (length l.line.items ≡ length l.mark + 2 * l.byte-index)
