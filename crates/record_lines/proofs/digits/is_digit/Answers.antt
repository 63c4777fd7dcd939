-- `is_digit`: the value that it answers.
use Rattle.std.proofs.Common.{arith}
use Rattle.record_lines.proofs.Values.{test_is}
use Rattle.record_lines.proofs.digits.is_digit.Goals as goal

pub returns : goal.returns
returns c = test_is c.args.byte (omega arith)
