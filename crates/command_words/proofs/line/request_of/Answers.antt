-- `request_of`: its contract, `Asked`.
use Rattle.command_words.proofs.LineLemmas.{AsksNothing-unnamed, Asked-line}
use Rattle.command_words.proofs.line.request_of.Goals as goal

pub returns-in_err-name : goal.returns-in_err-name
returns-in_err-name c = λ words is. rw c.from_residual.ensures (AsksNothing-unnamed words c.args.line.now is c.in_err-name.ensures.none)

pub returns : goal.returns
returns c = λ words is. Asked-line words c.args.line.now is c.in_ok-name.name _ c.in_ok-name.ensures.some c.read_command.ensures
