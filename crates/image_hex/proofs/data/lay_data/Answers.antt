-- `lay_data`: its clauses `ok` and `err`.
use Rattle.std.proofs.Common.{◌≤◌, ◌+◌, length, arith}
use Rattle.image_hex.specs.Hex.{data_cells}
use Rattle.image_hex.proofs.Pieces.{two_pieces, both_ok, first_err, second_err}
use Rattle.image_hex.proofs.data.lay_data.Goals as goal

pub returns-in-Ok-clause-ok : goal.returns-in-Ok-clause-ok
returns-in-Ok-clause-ok c =
    let way = c.way_behind-way.result in
    let facts = c.way_behind-way.ensures in
    let xs = c.split_at.result.0.now in
    let ys = c.split_at.result.1.now in
    let cells = two_pieces c.args.base c.args.offset way.first way.room way.low c.args.bytes.now c.min-count.result xs ys facts.straight facts.wrapped
    c.requires c.min-count.ensures c.split_at.ensures.front c.split_at.ensures.back in
    let apart : way.low + length ys ≤ way.first = omega (arith, c.split_at.ensures.back_len, c.min-count.ensures, facts.lower, facts.apart) in
    both_ok c.lay_cells-in-Ok.result (data_cells c.args.base c.args.offset c.args.bytes.now) way.first way.low xs ys c.args.map.now
    c.lay_cells.new.map c.lay_cells-in-Ok.new.map apart cells c.in-Ok.ensures.ok c.lay_cells-in-Ok.ensures.ok

pub returns-in-Ok-clause-err : goal.returns-in-Ok-clause-err
returns-in-Ok-clause-err c =
    let way = c.way_behind-way.result in
    let facts = c.way_behind-way.ensures in
    let xs = c.split_at.result.0.now in
    let ys = c.split_at.result.1.now in
    let cells = two_pieces c.args.base c.args.offset way.first way.room way.low c.args.bytes.now c.min-count.result xs ys facts.straight facts.wrapped
    c.requires c.min-count.ensures c.split_at.ensures.front c.split_at.ensures.back in
    let apart : way.low + length ys ≤ way.first = omega (arith, c.split_at.ensures.back_len, c.min-count.ensures, facts.lower, facts.apart) in
    second_err c.lay_cells-in-Ok.result (data_cells c.args.base c.args.offset c.args.bytes.now) way.first way.low xs ys c.args.map.now c.lay_cells.new.map apart
    cells c.in-Ok.ensures.ok c.lay_cells-in-Ok.ensures.err

pub returns-in-Err-clause-err : goal.returns-in-Err-clause-err
returns-in-Err-clause-err c =
    let way = c.way_behind-way.result in
    let facts = c.way_behind-way.ensures in
    let xs = c.split_at.result.0.now in
    let ys = c.split_at.result.1.now in
    let cells = two_pieces c.args.base c.args.offset way.first way.room way.low c.args.bytes.now c.min-count.result xs ys facts.straight facts.wrapped
    c.requires c.min-count.ensures c.split_at.ensures.front c.split_at.ensures.back in
    first_err c.in-Err.fault (data_cells c.args.base c.args.offset c.args.bytes.now) way.first way.low xs ys c.args.map.now cells c.in-Err.ensures.err
