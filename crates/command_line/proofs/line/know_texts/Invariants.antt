-- `know_texts`: what holds at each turn of its loop.
use Rattle.std.proofs.Common.{take}
use Rattle.command_line.specs.Scan.{AreTexts}
use Rattle.command_line.proofs.line.know_texts.Given as goal

abbrev pub invariant-words : goal.invariant-words
invariant-words l = AreTexts (take l.word-index l.words)
