-- `put_clear`: what holds at each turn of its loop.
use Rattle.std.proofs.Common.{◌≡◌, ◌<◌, ℕ, List, Bool, length, true, false, slice_index_or}
use Rattle.std.specs.Prelude.{slice_index}
use Rattle.bench_model.proofs.record.put_clear.Given as goal

-- the file so far: as long as the marks, the value where they are set, and the bytes where they are clear up to here
pub record SoFar (i value : ℕ) (marks : List Bool) (bytes file : List ℕ) : Type 0 where
  pub long : length file ≡ length marks
  pub set : (k : ℕ) → k < length marks → slice_index_or marks k true ≡ true → slice_index file k ≡ value
  pub clear : (k : ℕ) → k < i → slice_index_or marks k true ≡ false → slice_index file k ≡ slice_index bytes k

abbrev pub invariant-loop-i : goal.invariant-loop-i
invariant-loop-i l = SoFar l.i l.value l.marks l.bytes l.file
