-- `put_contents`: its contract, and what `empty_sectors` and `empty_pages` require.
use Rattle.std.proofs.Common.{arith}
use Rattle.std.proofs.lemmas.Grind.{common_steps}
use Rattle.duty_rounds.proofs.contents.put_contents.Goals as goal

pub returns-in-Sectors-Outside : goal.returns-in-Sectors-Outside
returns-in-Sectors-Outside c = grind (arith, common_steps)

pub empty_pages-requires-clause-set : goal.empty_pages-requires-clause-set
empty_pages-requires-clause-set c = grind (arith, common_steps)

pub empty_sectors-requires-clause-set : goal.empty_sectors-requires-clause-set
empty_sectors-requires-clause-set c = grind (arith, common_steps)

pub returns : goal.returns
returns c = grind (arith, common_steps)

pub empty_pages-requires-in-Pages-default-clause-set : goal.empty_pages-requires-in-Pages-default-clause-set
empty_pages-requires-in-Pages-default-clause-set c = grind (arith, common_steps)

pub returns-2 : goal.returns-2
returns-2 c = grind (arith, common_steps)

pub returns-in-Checks-Outside : goal.returns-in-Checks-Outside
returns-in-Checks-Outside c = grind (arith, common_steps)
