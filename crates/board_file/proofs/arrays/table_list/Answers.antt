-- `table_list`: that it keeps its contract.
use Rattle.std.proofs.lemmas.Grind.{common_steps}
use Rattle.std.proofs.Common.{◌≡◌, true, rules, sym, arith}
use Rattle.toml.specs.View.{items_view}
use Rattle.board_file.specs.Text.{all_tables}
use Rattle.board_file.proofs.Items.{as_array-is, table_list-array}
use Rattle.board_file.proofs.arrays.table_list.Goals as goal

pub returns : goal.returns
returns c =
    let items = c.in_ok-items.items.now.items in
    let all : all_tables (items_view items) ≡ true = search rules in
    rw (as_array-is _ _ c.in_ok-items.ensures) (sym (table_list-array items all))

pub returns-then-not-are_tables : goal.returns-then-not-are_tables
returns-then-not-are_tables c = grind (arith, common_steps)

pub returns-in_err-items : goal.returns-in_err-items
returns-in_err-items c = grind (arith, common_steps)
