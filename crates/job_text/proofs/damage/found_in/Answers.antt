-- `found_in`: that it keeps its contract.
use Rattle.std.proofs.Common.{rules, arith}
use Rattle.job_text.proofs.damage.found_in.Goals as goal

pub split_at-requires : goal.split_at-requires
split_at-requires c = omega arith

pub returns : goal.returns
returns c = search rules
