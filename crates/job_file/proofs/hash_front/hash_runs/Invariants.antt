-- `hash_runs`: what holds at each turn of its loop.
use Rattle.std.proofs.Common.{ℕ, List, ◌++◌, take}
use Rattle.std.specs.List.{flat_map}
use Rattle.sha2.specs.Hashers.{Holds256}
use Rattle.job_text.specs.Body.{run_text}
use Rattle.job_file.proofs.hash_front.hash_runs.Given as goal

abbrev pub invariant-loop-index : goal.invariant-loop-index
invariant-loop-index l = (m : List ℕ) → Holds256 l.fn.hasher m → Holds256 l.hasher (m ++ flat_map run_text (take l.index l.image))
