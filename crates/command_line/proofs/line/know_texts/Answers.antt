-- `know_texts`: that its loop keeps its invariant.
use Rattle.command_line.proofs.Shorts.{AreTexts-more}
use Rattle.command_line.proofs.line.know_texts.Goals as goal

pub words-preserved : goal.words-preserved
words-preserved c = AreTexts-more c.args.words.now c.words.word-index c.word-item.result c.words-test.true c.word-item.is c.words.invariant
    (rw (← c.text-text.ensures) c.text-text.utf8)
