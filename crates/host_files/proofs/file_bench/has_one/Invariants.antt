-- `has_one`: what holds at each turn of its loop.
use Rattle.std.proofs.Common.{◌≡◌, drop}
use Rattle.host_files.specs.Bench.{has_one}
use Rattle.host_files.proofs.file_bench.has_one.Given as goal

abbrev pub invariant-loop-bench : goal.invariant-loop-bench
invariant-loop-bench l = has_one l.file (drop l.bench-index l.benches) ≡ has_one l.file l.benches
