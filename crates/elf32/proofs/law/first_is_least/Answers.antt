-- `first_is_least`: its clauses `found` and `none`.
use Rattle.elf32.proofs.SearchLemmas.{first_below-fails, first_below-least}
use Rattle.elf32.proofs.law.first_is_least.Goals as goal

pub returns-clause-found : goal.returns-clause-found
returns-clause-found c = first_below-least

pub returns-clause-none : goal.returns-clause-none
returns-clause-none c = first_below-fails
