-- `words_ask_for_one_command`: the law.
use Rattle.command_words.proofs.WordsLemmas.{one_command}
use Rattle.command_words.proofs.law.words_ask_for_one_command.Goals as goal

pub returns : goal.returns
returns c = one_command
