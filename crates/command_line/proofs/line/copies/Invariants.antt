-- `copies`: what holds at each turn of its loop.
use Rattle.std.proofs.Common.{◌≡◌, take}
use Rattle.command_line.specs.Texts.{texts_of}
use Rattle.command_line.proofs.line.copies.Given as goal

abbrev pub invariant-texts : goal.invariant-texts
invariant-texts l = l.found.items ≡ texts_of (take l.text-index l.texts)
