-- `string`: that it keeps its contract.
use Rattle.std.proofs.Common.{sym}
use Rattle.elf32.proofs.StringLemmas.{found_within, missed_within}
use Rattle.elf32.proofs.strings.string.Goals as goal

pub returns-in_err-len : goal.returns-in_err-len
returns-in_err-len c =
    rw c.from_residual.ensures (missed_within c.args.rest.now c.args.limit c.requires.ends (rw (← c.min.ensures) (sym c.in_err-len.ensures)))

pub returns : goal.returns
returns c = rw c.min.ensures (found_within c.args.rest.now c.args.limit c.in_ok-len.len c.requires.ends (rw (← c.min.ensures) (sym c.in_ok-len.ensures)))
