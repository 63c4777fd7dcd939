-- `hash_image`: what holds at each turn of its loop.
use Rattle.std.proofs.Common.{take}
use Rattle.sha2.specs.Hashers.{Holds256}
use Rattle.job_parts.specs.Listing.{bytes_of}
use Rattle.job_parts.proofs.hashes.hash_image.Given as goal

abbrev pub invariant-loop-index : goal.invariant-loop-index
invariant-loop-index l = Holds256 l.hasher (bytes_of (take l.index l.image))
