-- `value_of`: the value that it answers.
use Rattle.std.proofs.Common.{arith}
use Rattle.record_lines.proofs.Values.{value_at}
use Rattle.record_lines.proofs.digits.value_of.Goals as goal

pub returns : goal.returns
returns c = rw c.from.ensures (value_at c.args.byte (omega arith))
