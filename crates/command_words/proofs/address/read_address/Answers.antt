-- `read_address`: its clause `none`.
use Rattle.command_words.proofs.AddressLemmas.{no_number}
use Rattle.command_words.proofs.address.read_address.Goals as goal

pub returns-in-Some-clause-none : goal.returns-in-Some-clause-none
returns-in-Some-clause-none c = no_number _ c.args.word.now c.in-Some.digits.now (c.in-Some.ensures) c.read_number-in-Some.ensures
