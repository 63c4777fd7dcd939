-- `lay_hash`: what holds at each turn of its loop.
use Rattle.std.proofs.Common.{◌≡◌, ◌<◌, ◌+◌, ℕ, length, get_or}
use Rattle.job_parts.specs.Mended.{laid_byte}
use Rattle.job_parts.proofs.mended.lay_hash.Given as goal

abbrev pub invariant-loop-index : goal.invariant-loop-index
invariant-loop-index l = (length l.out ≡ length l.fn.out)
    × ((i d : ℕ) → i < length l.fn.out → get_or l.out i d ≡ laid_byte l.hash l.index (l.at + i) (get_or l.fn.out i d))
