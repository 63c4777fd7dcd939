-- No refusal has the status 0.
use Rattle.std.proofs.Common.{◌≤◌, arith}
use Rattle.report_text.specs.Refusal.{Refusal, status_of, out_of_memory}

pub some_status : (r : Refusal) → 1 ≤ status_of r
some_status out_of_memory = omega arith
some_status r = omega arith
