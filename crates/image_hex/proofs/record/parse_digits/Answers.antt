-- `parse_digits`: the value that it answers.
use Rattle.std.proofs.Common.{arith, ◌∙◌, sym, ap}
use Rattle.std.specs.Prelude.{unwrap_or}
use Rattle.std.proofs.lemmas.Grind.{common_steps}
use Rattle.image_hex.specs.Record.{checked}
use Rattle.image_hex.proofs.Records.{read_right}
use Rattle.image_hex.proofs.record.parse_digits.Goals as goal

pub returns : goal.returns
returns c =
    let right = read_right c.args.digits.now c.from-count.result (sym c.all_digits.ensures ∙ c.if-not-all_digits.false) (omega arith)
    (c.from-count.ensures ∙ c.unwrap_or.ensures ∙ ap (λ o. unwrap_or o 0) c.hex_pair.ensures) (omega arith) in
    c.check.ensures ∙ ap checked c.decode.ensures ∙ sym right

pub check-requires-clause-least : goal.check-requires-clause-least
check-requires-clause-least c = grind (arith, common_steps)

pub slice_bounds-bytes-end : goal.slice_bounds-bytes-end
slice_bounds-bytes-end c = grind (arith, common_steps)

pub check-requires-clause-most : goal.check-requires-clause-most
check-requires-clause-most c = grind (arith, common_steps)

pub decode-requires : goal.decode-requires
decode-requires c = grind (arith, common_steps)
