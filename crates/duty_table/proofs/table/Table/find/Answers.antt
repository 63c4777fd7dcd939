-- `Table::find`: what `list_fills` requires.
use Rattle.duty_table.proofs.table.Table.find.Goals as goal

pub list_fills-requires-clause-loaded : goal.list_fills-requires-clause-loaded
list_fills-requires-clause-loaded c = rw c.loop.invariant c.requires.loaded

pub list_fills-requires-clause-function : goal.list_fills-requires-clause-function
list_fills-requires-clause-function c = rw c.loop.invariant c.requires.function
