-- `byte_of`: the value that it answers where one of the two is no digit.
use Rattle.std.proofs.Common.{arith}
use Rattle.std.proofs.lemmas.Bool.Decides.{nat_tests}
use Rattle.record_lines.proofs.Values.{first_none, second_none}
use Rattle.record_lines.proofs.digits.byte_of.Goals as goal
use Rattle.record_lines.proofs.digits.byte_of.Goals.{else-high-lt16-via-then-high-lt16+else-low-lt16, else-high-lt16-via-else-high-lt16}

pub returns-else-high-lt16 : goal.returns-else-high-lt16
returns-else-high-lt16 c =
    elim c.else-high-lt16.branch [
      | else-high-lt16-via-then-high-lt16+else-low-lt16 w ↦
          second_none c.args.high c.args.low c.value_of-low.result (omega arith) c.value_of-low.ensures (grind (arith, nat_tests))
      | else-high-lt16-via-else-high-lt16 w ↦
          first_none c.args.high c.args.low c.value_of-high.result (omega arith) c.value_of-high.ensures (grind (arith, nat_tests))
    ]
