-- `Payload::copy`: the value that it answers.
use Rattle.std.proofs.Common.{rules}
use Rattle.std.proofs.lemmas.Slice.{overwrites}
use Rattle.record_lines.proofs.payload.Payload.copy.Goals as goal

pub returns : goal.returns
returns c = search (rules, overwrites)
