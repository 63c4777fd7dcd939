-- `short_name`: its contract, `HasNoShortName`.
use Rattle.elf32.proofs.NameLemmas.{short_lent, none_short}
use Rattle.elf32.proofs.names.short_name.Goals as goal

pub returns-in-Ok : goal.returns-in-Ok
returns-in-Ok c = short_lent c.args.bytes.now c.args.index _ (rw c.in-Ok.is at c.section_name.ensures.within)

pub returns-in-Err : goal.returns-in-Err
returns-in-Err c = none_short c.args.bytes.now c.args.index (rw c.in-Err.is at c.section_name.ensures.bad).1
