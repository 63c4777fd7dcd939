-- `CommandLine::read`: its contract, `IsReadAs`.
use Rattle.command_words.proofs.LineLemmas.{AsksNothing-unread}
use Rattle.command_words.proofs.line.CommandLine.read.Goals as goal

pub returns-in-Err-Usage : goal.returns-in-Err-Usage
returns-in-Err-Usage c = AsksNothing-unread c.args.words.now (c.in-Err-Usage.ensures.usage c.in-Err-Usage.field-0-is)
